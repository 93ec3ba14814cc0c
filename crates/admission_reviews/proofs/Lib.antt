pub mod ResponseTexts
pub mod Found
