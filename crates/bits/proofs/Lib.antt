-- Laws of bit vectors: their bits, their words and their checks.
pub mod Bits
pub mod Vectors
pub mod Checks
pub mod Pairs
pub mod Meaning
