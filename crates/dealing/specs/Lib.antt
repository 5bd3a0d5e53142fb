-- The definitions of the theorem: runs, totals, what it takes and what it tells.
pub mod Runs
pub mod Totals
pub mod Demand
