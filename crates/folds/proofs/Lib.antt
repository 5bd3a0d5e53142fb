-- Laws of sums over two vectors.
pub mod Answered
pub mod Exact
