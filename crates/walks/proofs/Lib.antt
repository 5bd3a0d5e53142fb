-- Laws of a walk over two vectors, of its stores, of a search by halving, and of which index is smaller.
pub mod Turns
pub mod Walks
pub mod Stores
pub mod Halves
pub mod Choices
pub mod Points
