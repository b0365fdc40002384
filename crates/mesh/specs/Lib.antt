pub mod Mesh
pub mod Walks
pub mod Meet
pub mod Accepted
