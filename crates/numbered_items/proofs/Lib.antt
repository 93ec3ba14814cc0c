pub mod IndexLaws
pub mod NumberedLaws
pub mod TermNumberLaws
