-- A group is turned by the index: the plan is as the rules turn it, and its indexes are right.
pub mod DirOnce
pub mod Fields
pub mod Plans
pub mod Telegrams
