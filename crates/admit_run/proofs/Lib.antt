pub mod Asked
pub mod Right
pub mod Steps
pub mod Telling
