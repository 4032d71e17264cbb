pub mod Keys
pub mod Around
pub mod Laws
