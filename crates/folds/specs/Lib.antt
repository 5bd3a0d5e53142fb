-- The definitions that the contracts of `folds` cite.
pub mod Calls
pub mod Exact
