-- Laws of sums over two vectors: of a place, of a turn, and of many.
pub mod Summing
pub mod Quick
pub mod Turns
pub mod Runs
pub mod Inner
