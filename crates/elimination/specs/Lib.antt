pub mod Loops
pub mod Rows
pub mod Tables
pub mod Absorption
pub mod Reduced
