pub mod Floats
pub mod Strings
pub mod UnreadLaws
