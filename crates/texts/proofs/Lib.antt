-- Laws of texts.
pub mod Putting
pub mod Spelling
