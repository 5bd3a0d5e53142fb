-- Laws of a run.
pub mod Loops
