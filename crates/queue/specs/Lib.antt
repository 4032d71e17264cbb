pub mod Keys
pub mod Seating
pub mod Filled
pub mod Sound
pub mod Meaning
