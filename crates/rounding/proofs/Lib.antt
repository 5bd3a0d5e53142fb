-- Laws of digits, of patterns, and of what is nearest.
pub mod Multiples
pub mod Digits
pub mod Patterns
pub mod Steps
pub mod Nearest
