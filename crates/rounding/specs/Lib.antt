-- What it is to be nearest.
pub mod Nearest
