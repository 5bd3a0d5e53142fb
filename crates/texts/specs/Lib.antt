-- The definitions that the contracts of `texts` cite.
pub mod Texts
pub mod Puts
pub mod Lines
