pub mod Answer
pub mod Counts
pub mod Crossing
pub mod Line
pub mod Output
