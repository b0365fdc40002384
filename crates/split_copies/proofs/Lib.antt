pub mod WalkLaws
pub mod CopyLaws
