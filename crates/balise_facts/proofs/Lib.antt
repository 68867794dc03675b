pub mod Sequences
pub mod Steps
pub mod TagLines
