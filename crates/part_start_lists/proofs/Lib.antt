pub mod HeaderLaws
pub mod CountLaws
pub mod StartCounts
pub mod StartLists
pub mod FollowLaws
