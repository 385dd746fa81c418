pub mod OfPlain
pub mod OfWoven
pub mod Source
pub mod Turn
pub mod Turning
