-- Laws of merging in place.
pub mod Moved
pub mod Rest
pub mod First
pub mod Climbs
pub mod Whole
