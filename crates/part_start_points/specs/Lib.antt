pub mod Points
pub mod Outside
