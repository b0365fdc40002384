pub mod Start
pub mod Planning
