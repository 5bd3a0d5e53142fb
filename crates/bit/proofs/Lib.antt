-- Laws of counts, and of two vectors put together.
pub mod Pairs
pub mod Counted
