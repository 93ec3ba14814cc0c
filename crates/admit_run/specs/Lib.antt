pub mod Causes
pub mod Clauses
pub mod Judged
pub mod Right
pub mod Stream
pub mod Told
pub mod Words
