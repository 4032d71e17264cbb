pub mod Near
pub mod Accounts
pub mod Numbers
