pub mod Wides
pub mod Narrows
pub mod Undoing
pub mod Keystreams
