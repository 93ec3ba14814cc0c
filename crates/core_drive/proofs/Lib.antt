pub mod Goes
pub mod Settled
