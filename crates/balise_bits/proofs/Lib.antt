pub mod Pieces
pub mod Putting
pub mod Moved
pub mod Flat
pub mod Windows
pub mod Packing
pub mod Laid
pub mod Digits
pub mod Spare
pub mod Ones
pub mod Same
pub mod Short
pub mod Judging
pub mod Blocks
mod Printed
mod CellsMemory
mod Refilled
