pub mod RowLaws
pub mod ClosureLaws
