pub mod Places
pub mod Points
pub mod Refusals
pub mod Drawn
pub mod ClosedUp
pub mod Back
