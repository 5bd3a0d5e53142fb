-- The laws of counts, tests and lists over places.
pub mod Below
pub mod First
