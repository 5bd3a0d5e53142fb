-- Laws of regions and capacities.
pub mod Capacities
pub mod Stands
pub mod Apart
