pub mod SideLaws
pub mod LowerLaws
