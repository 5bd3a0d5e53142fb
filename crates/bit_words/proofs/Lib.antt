-- Laws of words put together, and of their ones.
pub mod Joins
pub mod Ones
