pub mod Keeping
pub mod Printing
