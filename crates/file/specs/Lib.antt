pub mod Filled
pub mod Filling
pub mod Packets
pub mod Spelling
