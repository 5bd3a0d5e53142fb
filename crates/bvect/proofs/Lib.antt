-- Laws of bit vectors: slices.
pub mod Slices
