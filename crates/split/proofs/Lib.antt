pub mod MapLaws
pub mod UnitLaws
pub mod PassedLaws
pub mod OrderLaws
pub mod PointLaws
pub mod SplitLaws
