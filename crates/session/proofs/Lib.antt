-- Laws for the proofs of `session`, and of sessions as a whole.
pub mod Fronts
pub mod Given
pub mod Asking
pub mod Enough
pub mod Digits
pub mod Respelled
pub mod Back
pub mod Only
pub mod Meaning
pub mod Limits
