pub mod GivingLaws
pub mod CallLaws
