-- The definitions that the contracts of `copies` cite.
pub mod Copies
