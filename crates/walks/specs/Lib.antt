-- The definitions that the contracts of `walks` cite.
pub mod Walk
