-- Laws of a turn, and of many.
pub mod Turning
