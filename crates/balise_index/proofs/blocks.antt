-- The blocks of an order of tags: which code stands at a place, and what cutting or changing one block leaves.
pub mod CodeAt
pub mod Cut
pub mod Flat
pub mod Laid
pub mod Starts
