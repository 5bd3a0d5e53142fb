-- Laws of counts as floats, and of Jaccard.
pub mod Counts
pub mod Jaccards
pub mod Nan
