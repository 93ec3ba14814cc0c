pub mod Follows
pub mod Runs
pub mod Going
pub mod HeldBack
