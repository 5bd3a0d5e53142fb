-- The figures of document 01, as one list.
pub mod Figures
