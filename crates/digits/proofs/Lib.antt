pub mod Gathering
pub mod Pairs
