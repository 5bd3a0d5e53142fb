-- The definitions that the contracts of `bit` cite.
pub mod Calls
