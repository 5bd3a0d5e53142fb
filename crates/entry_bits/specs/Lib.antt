-- What a vector is as it was read, and the bits to print for its entries.
pub mod Operands
