pub mod Recursion
pub mod Rings
pub mod Calls
pub mod Means
