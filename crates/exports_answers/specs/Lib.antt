-- The definitions that the contracts of the exported calls cite.
pub mod Answers
pub mod Bounds
