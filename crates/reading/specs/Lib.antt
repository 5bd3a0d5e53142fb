-- What the lines of the program's input are, and what reading one promises.
pub mod Starts
pub mod Parts
