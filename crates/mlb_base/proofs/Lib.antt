pub mod Among
pub mod Bools
pub mod CaseLaws
pub mod Entries
pub mod Lists
pub mod Orders
