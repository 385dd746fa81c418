pub mod Worked
pub mod Streams
pub mod Windows
pub mod Rising
pub mod Only
pub mod Meeting
pub mod Refused
