pub mod ListChecks
pub mod StateChecks
pub mod StateLaws
