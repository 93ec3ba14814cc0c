pub mod Announced
pub mod Changes
