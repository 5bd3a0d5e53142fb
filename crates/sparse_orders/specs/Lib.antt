-- The definitions that the contracts of equality and order cite, and those that their laws cite.
pub mod Orders
pub mod Calls
pub mod Loops
pub mod Dense
