-- Laws of slices of sparse vectors.
pub mod Cuts
pub mod Meaning
