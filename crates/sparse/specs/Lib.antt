-- The definitions that the contracts of the sparse crates cite.
pub mod Cells
pub mod Vectors
pub mod Calls
pub mod Sound
pub mod Numbers
