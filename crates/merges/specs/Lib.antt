-- The definitions that the contracts of `merges` cite.
pub mod Algebra
pub mod Calls
pub mod Loops
