pub mod Draws
pub mod Services
pub mod Drawn
pub mod Begun
pub mod Run
pub mod Lines
pub mod Report
pub mod Laws
