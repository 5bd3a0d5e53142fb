-- Laws of sparse vectors.
pub mod Falls
pub mod Checks
pub mod Look
pub mod Entries
pub mod Meaning
pub mod Numbers
pub mod Writes
pub mod Slices
