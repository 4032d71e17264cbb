pub mod Exactness
pub mod Answered
