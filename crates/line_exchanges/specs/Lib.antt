pub mod Exchanges
pub mod Puts
