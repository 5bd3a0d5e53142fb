-- The definitions that the contracts of `svect` cite.
pub mod Calls
