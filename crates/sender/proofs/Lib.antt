pub mod Keeping
pub mod Payloads
pub mod Sending
pub mod Telling
