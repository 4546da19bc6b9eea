pub mod Unique
pub mod Pile
