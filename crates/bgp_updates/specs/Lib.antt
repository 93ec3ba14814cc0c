pub mod Between
pub mod GroupPlaces
pub mod Laws
pub mod Message
pub mod OneFamily
pub mod Received
pub mod Tables
