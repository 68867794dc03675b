-- The codes of tags: each tag has at most one, and each code stands for one tag.
pub mod Codes
pub mod Known
