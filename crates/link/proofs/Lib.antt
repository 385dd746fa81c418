pub mod Reading
pub mod Rounds
pub mod Taking
