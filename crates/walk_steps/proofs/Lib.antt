pub mod NoteLaws
pub mod StepLaws
pub mod WalkLaws
