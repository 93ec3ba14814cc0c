pub mod Options
pub mod Pools
pub mod Reasons
pub mod Records
pub mod Configs
