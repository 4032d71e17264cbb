pub mod Octahedron
pub mod Flawed
pub mod Words
pub mod Examples
