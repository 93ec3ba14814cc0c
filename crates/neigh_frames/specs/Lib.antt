pub mod Advertisement
pub mod Arp
pub mod Checksum
pub mod Ndp
pub mod Options
pub mod Solicitation
