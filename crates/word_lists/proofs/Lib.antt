pub mod PutLaws
pub mod GivenLaws
pub mod RegionLaws
