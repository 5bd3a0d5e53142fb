-- The definitions that the contracts of `sums` cite.
pub mod Sums
pub mod Loops
