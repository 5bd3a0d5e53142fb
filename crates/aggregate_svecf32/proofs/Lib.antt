-- Laws of aggregate states.
pub mod Consistent
pub mod Held
pub mod Acting
pub mod Finishing
pub mod Moved
pub mod Begun
pub mod Joined
pub mod Coming
pub mod Keeps
pub mod Outcomes
