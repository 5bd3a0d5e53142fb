-- The definitions that the contracts of `bit_words` cite.
pub mod Ops
pub mod Words
