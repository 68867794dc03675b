-- Sets of places: each place stands there once, in order, in a small set, a list or a tree.
pub mod Equal
pub mod Few
pub mod Ranked
pub mod Sorted
pub mod Wide
