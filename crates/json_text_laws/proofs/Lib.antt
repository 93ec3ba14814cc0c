pub mod Bytes
mod Content
mod Tokens
mod Trees
pub mod Values
pub mod Readers
