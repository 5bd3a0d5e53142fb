-- Counts, tests and lists over the places of a vector.
pub mod Below
pub mod Search
