-- The definitions that the contracts of `strides` cite.
pub mod Strides
