-- Laws of order and equality of words.
pub mod Lowest
pub mod Orders
pub mod Equality
