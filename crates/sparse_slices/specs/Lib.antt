-- The definitions that the contracts of slices cite.
pub mod Calls
pub mod Loops
