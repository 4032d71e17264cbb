pub mod Fractions
pub mod Ranks
