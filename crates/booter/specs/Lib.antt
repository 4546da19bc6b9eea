pub mod Registers
pub mod Loading
pub mod Sequences
pub mod Calls
