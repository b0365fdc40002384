pub mod Intervals
pub mod Lists
pub mod Tests
pub mod Bytes
