pub mod PlaceLaws
pub mod SearchLaws
