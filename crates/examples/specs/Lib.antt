pub mod Words
pub mod Examples
pub mod Met
pub mod Refused
