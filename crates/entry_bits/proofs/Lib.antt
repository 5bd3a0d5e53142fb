-- Laws of the bits to print.
pub mod Printed
