pub mod Limits
pub mod Model
pub mod Refusals
pub mod Gathered
