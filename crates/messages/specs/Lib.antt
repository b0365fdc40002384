pub mod Messages
pub mod Readings
