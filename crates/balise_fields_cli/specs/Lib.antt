pub mod Ways
pub mod Arguments
pub mod Exits
pub mod Program
