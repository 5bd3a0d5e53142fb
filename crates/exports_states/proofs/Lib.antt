-- Laws of the exported calls on states.
pub mod Headers
pub mod Only
