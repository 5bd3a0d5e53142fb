-- Laws for reading lines.
pub mod Ends
