-- Laws of the turns of a merge in place: one turn, many, and copies.
pub mod Steps
pub mod Chains
pub mod Copies
