pub mod Cluster
pub mod Fenced
pub mod Among
pub mod Going
pub mod Histories
pub mod Refused
