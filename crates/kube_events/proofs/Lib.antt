pub mod AskedParts
pub mod Events
pub mod Groups
pub mod Versions
