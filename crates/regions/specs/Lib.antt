-- The definitions of regions of lent lists, and of capacities.
pub mod Capacity
pub mod Regions
pub mod Loops
