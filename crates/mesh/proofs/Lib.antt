pub mod ReaderLaws
pub mod FollowLaws
pub mod MeetLaws
pub mod DimensionLaws
pub mod NumberLaws
pub mod AcceptedLaws
pub mod MeshLaws
pub mod WalkLaws
