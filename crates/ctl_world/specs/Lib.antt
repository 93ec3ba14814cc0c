pub mod Steps
pub mod Listed
pub mod Puts
pub mod Faults
pub mod Begun
pub mod Clashes
