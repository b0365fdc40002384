pub mod AddLaws
pub mod ClassLists
