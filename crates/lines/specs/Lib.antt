-- The definitions that the contracts of `lines` cite.
pub mod Numerals
pub mod Lines
