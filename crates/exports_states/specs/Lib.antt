-- The definitions that the contracts of the exported calls on states cite.
pub mod States
