pub mod FoundLines
pub mod Gathering
pub mod Linked
pub mod TurnedLines
