pub mod Values
pub mod Canonical
pub mod AddressText
pub mod EntryText
pub mod Entry
pub mod Cover
