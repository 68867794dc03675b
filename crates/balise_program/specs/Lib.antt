pub mod Exits
pub mod Reporting
pub mod Starting
