pub mod blocks
pub mod identities
pub mod names
pub mod order
pub mod places
pub mod tags
