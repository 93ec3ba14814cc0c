pub mod Apart
pub mod LineTexts
pub mod Replies
