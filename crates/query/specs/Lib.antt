pub mod Queries
pub mod Parsing
pub mod Answers
