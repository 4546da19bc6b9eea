pub mod Equations
pub mod Wide
pub mod Narrow
