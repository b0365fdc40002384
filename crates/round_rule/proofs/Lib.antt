pub mod KindLaws
pub mod Refusals
pub mod RuleLaws
