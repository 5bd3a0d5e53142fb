-- The definitions that the contracts of `bits` cite.
pub mod Bits
pub mod Vectors
pub mod Calls
pub mod Words
