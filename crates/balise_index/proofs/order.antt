-- The map in order: what it holds under tags, in their order, after one is put in, taken out or written.
pub mod Coded
pub mod Entries
pub mod Held
pub mod Put
pub mod Search
pub mod Taken
pub mod Written
