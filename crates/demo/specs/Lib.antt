pub mod Addresses
pub mod Records
