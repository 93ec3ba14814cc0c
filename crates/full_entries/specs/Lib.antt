pub mod Entries
pub mod Full
pub mod Known
pub mod Places
