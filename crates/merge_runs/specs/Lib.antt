-- The definitions that the contracts of `merge_runs` cite.
pub mod Runs
