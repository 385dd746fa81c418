pub mod Frames
pub mod Streams
pub mod Combinations
pub mod Promises
pub mod Theorems
