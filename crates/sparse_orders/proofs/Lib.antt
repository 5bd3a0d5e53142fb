-- Laws of equality and order of sparse vectors.
pub mod Others
pub mod Meaning
pub mod Floats
pub mod Mirror
pub mod Apart
pub mod Dense
pub mod Sorting
