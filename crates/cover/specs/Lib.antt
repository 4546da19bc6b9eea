pub mod Lists
pub mod Positions
pub mod Blocks
pub mod Stretches
pub mod Covers
