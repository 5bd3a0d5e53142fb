-- The definitions that the contracts of `bit_slices` cite.
pub mod Loops
