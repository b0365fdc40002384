pub mod ClassLaws
pub mod GroupLaws
pub mod HolderLaws
pub mod HoldLaws
