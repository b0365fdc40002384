pub mod Rounds
pub mod Rows
