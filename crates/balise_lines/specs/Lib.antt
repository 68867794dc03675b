pub mod Counts
pub mod Lines
pub mod LineBuffer
pub mod Reading
pub mod Writing
pub mod Laws
