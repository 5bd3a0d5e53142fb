-- The definitions that the contract of a merge in place cites.
pub mod Turns
pub mod Loops
