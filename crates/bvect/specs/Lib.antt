-- The definitions that the contracts of `bvect` cite.
pub mod Calls
