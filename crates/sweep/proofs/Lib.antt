pub mod Volumes
pub mod Totals
pub mod Ways
pub mod Moved
pub mod Adding
pub mod Costs
pub mod Pairs
