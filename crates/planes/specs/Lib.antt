pub mod Quadrics
pub mod Accounts
pub mod Model
pub mod Exact
pub mod Meaning
pub mod AccountsLemmas
