-- Laws of the exported calls.
pub mod Unknown
pub mod Only
