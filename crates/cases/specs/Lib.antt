-- The definitions that the contracts of `cases` cite.
pub mod Room
