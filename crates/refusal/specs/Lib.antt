-- The definitions that every crate's contracts share.
pub mod Numbers
pub mod Answers
pub mod Bounds
pub mod Dims
