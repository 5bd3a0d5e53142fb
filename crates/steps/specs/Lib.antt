-- The definitions that the contracts of `steps` cite.
pub mod Places
pub mod Turns
