-- Laws of words that are cut and joined.
pub mod Joins
