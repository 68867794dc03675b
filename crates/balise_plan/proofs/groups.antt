-- Groups are read, copied, put in and taken out: they stay sound, and the indexes are right.
pub mod Copied
pub mod Dropped
pub mod Put
pub mod Reading
pub mod Sound
