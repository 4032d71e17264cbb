pub mod Nears
pub mod StillRight
