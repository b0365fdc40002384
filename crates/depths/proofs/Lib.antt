pub mod SignedLaws
pub mod DepthLaws
