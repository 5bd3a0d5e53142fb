-- The theorem: dealing, order and tree change no bit.
pub mod Numbers
pub mod Quotients
pub mod Added
pub mod Holding
pub mod Telling
pub mod Owning
pub mod Theorem
pub mod Needs
pub mod Stores
pub mod Finishing
pub mod Trial
