-- The definitions that the contracts of the aggregate cite.
pub mod States
pub mod Calls
pub mod Loops
