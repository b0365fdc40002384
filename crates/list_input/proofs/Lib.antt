pub mod PieceLaws
pub mod RoomLaws
