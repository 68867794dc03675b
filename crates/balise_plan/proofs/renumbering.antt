-- A group is renumbered by the index: the plan is as the rules renumber it, and its indexes are right.
pub mod Fields
pub mod Plans
