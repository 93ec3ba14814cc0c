pub mod Joined
pub mod Laws
pub mod Places
pub mod Reading
pub mod Update
