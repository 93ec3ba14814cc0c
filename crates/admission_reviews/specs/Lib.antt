pub mod Admitted
pub mod Given
pub mod Operations
pub mod Responses
pub mod Reviews
