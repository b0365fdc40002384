pub mod ChosenLaws
pub mod ListedLaws
