pub mod Alone
pub mod Arriving
pub mod Crossing
