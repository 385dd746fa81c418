pub mod Frames
pub mod Heads
pub mod Rules
pub mod Verdicts
