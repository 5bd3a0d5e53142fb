-- Laws of the shared definitions.
pub mod Spans
pub mod Chains
pub mod Dims
pub mod Told
pub mod Only
pub mod Decides
