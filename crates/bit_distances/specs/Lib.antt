-- The definitions that the contracts of `bit_distances` cite.
pub mod Distances
pub mod Calls
