pub mod NamedWords
pub mod NumberTexts
pub mod SaidOptions
