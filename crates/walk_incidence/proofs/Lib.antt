pub mod LinkLaws
pub mod TrailLaws
pub mod TurnedLaws
pub mod TrailSteps
