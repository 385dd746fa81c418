pub mod Turns
pub mod Seeking
pub mod Same
pub mod Clearing
pub mod Reducing
pub mod Joining
pub mod Absorbing
