pub mod Order
pub mod Hands
pub mod Calls
