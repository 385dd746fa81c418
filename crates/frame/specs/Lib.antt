pub mod DataFrame
pub mod Head
pub mod Proper
pub mod ReportFrame
