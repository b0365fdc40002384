pub mod TrailSteps
pub mod FoundLaws
pub mod SplitPoints
pub mod StampLaws
pub mod SplitOutside
