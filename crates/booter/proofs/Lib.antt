pub mod Turns
pub mod Rows
pub mod Halves
pub mod Loads
pub mod Moves
