pub mod Below
pub mod Fermat
pub mod Tables
pub mod Zeros
