pub mod Split
pub mod Owners
pub mod Numbering
pub mod Lists
