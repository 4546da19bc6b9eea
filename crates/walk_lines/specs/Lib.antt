pub mod Requests
pub mod Parsing
