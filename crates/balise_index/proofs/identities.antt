-- The map of identities: its cells name the right slots, also after a value is put in, taken out or written.
pub mod Added
pub mod Equal
pub mod PutIn
pub mod Right
pub mod Slots
pub mod Taken
pub mod TakenOut
pub mod TwoLists
pub mod Written
