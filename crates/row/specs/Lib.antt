pub mod Ring
pub mod Lanes
pub mod Rows
pub mod Vectors
pub mod Undone
pub mod Bytes
