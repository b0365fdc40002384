pub mod Classes
pub mod Groups
