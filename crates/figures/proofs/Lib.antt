-- The figures of document 01 hold.
pub mod Figures
