-- The index of names holds the links of the plan, and is changed link by link as packets and groups change.
pub mod GroupLists
pub mod Identities
pub mod Known
pub mod LinkSteps
pub mod LinksAt
pub mod Noted
pub mod OfGroup
pub mod OfPacket
pub mod Parts
pub mod Past
pub mod Relinked
pub mod Walking
