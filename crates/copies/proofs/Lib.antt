-- Laws of copies.
pub mod Copies
