pub mod Generators
pub mod Means
pub mod Places
