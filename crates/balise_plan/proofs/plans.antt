-- Whole plans: what stands at an address, what a change makes of the groups, and groups that are pushed.
pub mod Finding
pub mod Outcomes
pub mod Pushed
