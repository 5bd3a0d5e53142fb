-- Laws of numbers, texts and words, for the proofs of `lines`.
pub mod Numbers
pub mod Words
pub mod Progress
pub mod Finding
