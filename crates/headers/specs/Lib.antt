-- The definitions of a header's tests.
pub mod Headers
