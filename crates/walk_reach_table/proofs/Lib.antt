pub mod TableLaws
pub mod SizeLaws
pub mod EntryLaws
pub mod ReachLaws
