pub mod StartWords
pub mod StartFit
pub mod PlanLaws
