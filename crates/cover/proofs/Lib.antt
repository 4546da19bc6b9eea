pub mod Bytes
pub mod Pieces
pub mod Covering
