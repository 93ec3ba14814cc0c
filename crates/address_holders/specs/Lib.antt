pub mod Holders
pub mod NumberedSlots
