pub mod Causes
pub mod Clauses
pub mod Drive
pub mod Parts
pub mod Right
pub mod Stepping
pub mod Stream
pub mod Words
