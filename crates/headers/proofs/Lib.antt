-- Laws of a header's numbers.
pub mod Tests
