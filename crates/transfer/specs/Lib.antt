pub mod Calls
pub mod Log
pub mod Parts
pub mod Promise
pub mod Run
pub mod Steps
