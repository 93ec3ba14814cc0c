pub mod NamedPeers
pub mod Steps
pub mod Parts
