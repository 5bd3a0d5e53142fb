-- The definitions of averages.
pub mod Averages
pub mod Loops
