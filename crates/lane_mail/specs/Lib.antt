pub mod Lanes
pub mod Merges
pub mod Laws
pub mod Hands
pub mod Carried
pub mod Values
pub mod Inside
pub mod Looks
