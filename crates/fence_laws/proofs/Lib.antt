pub mod Gone
pub mod Doing
pub mod Taking
pub mod Staying
pub mod Runs
pub mod Going
pub mod HeldBack
