pub mod Sweeps
pub mod Prices
pub mod Shares
pub mod Entries
pub mod Meaning
pub mod Exact
