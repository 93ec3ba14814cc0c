pub mod Flags
pub mod Folded
pub mod Interfaces
pub mod Macs
pub mod NamedWords
