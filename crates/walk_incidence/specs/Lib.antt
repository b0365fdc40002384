pub mod Links
pub mod Sizes
pub mod Trails
