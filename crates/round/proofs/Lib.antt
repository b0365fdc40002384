pub mod FieldLaws
pub mod UndividedLaws
pub mod CallLaws
pub mod RoundLaws
