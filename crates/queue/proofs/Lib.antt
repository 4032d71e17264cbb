pub mod Ranks
pub mod Orders
pub mod Fills
pub mod Queues
pub mod Steps
