pub mod OpenedLaws
pub mod SettledLaws
pub mod CallLaws
pub mod EffectLaws
