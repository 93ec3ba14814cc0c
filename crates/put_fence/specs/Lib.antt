pub mod Fences
pub mod Fields
