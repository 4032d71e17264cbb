pub mod ExactCost
pub mod Answered
pub mod After
