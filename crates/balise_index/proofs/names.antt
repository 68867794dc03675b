-- The index of names: what it holds after a change of one identity.
pub mod Slots
pub mod Written
