pub mod LevelLaws
pub mod NearLaws
pub mod RowLaws
