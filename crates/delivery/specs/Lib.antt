pub mod Answer
pub mod Follows
pub mod Outcome
pub mod Output
pub mod Phases
pub mod Rounds
