pub mod Residues
pub mod Identities
pub mod Quadrics
pub mod Volumes
pub mod Values
pub mod Exact
pub mod OnMesh
pub mod Fitting
