pub mod Rules
pub mod Kinds
pub mod Code
