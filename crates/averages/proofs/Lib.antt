-- Laws of averages.
pub mod Shares
