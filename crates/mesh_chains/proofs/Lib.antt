pub mod RecordLaws
pub mod NoteLaws
pub mod StretchLaws
pub mod ElementLaws
