-- The definitions that the contract of `session` cites.
pub mod Sessions
pub mod Answers
pub mod Parts
pub mod Written
