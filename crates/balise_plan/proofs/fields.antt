-- A field is set: the plan is as the rules set it, and its indexes are right.
pub mod Levels
pub mod Link
pub mod Other
