-- The definitions that the contracts of `bit_orders` cite.
pub mod Orders
pub mod Words
