pub mod ByteLaws
pub mod CountLaws
pub mod IntervalLaws
pub mod IteratorLaws
pub mod ListLaws
pub mod ScanLaws
pub mod TestLaws
