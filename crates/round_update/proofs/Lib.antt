pub mod Registers
pub mod Places
pub mod Sums
pub mod Reaches
pub mod Chosen
pub mod Plain
pub mod UpdateLaws
