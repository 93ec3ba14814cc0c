pub mod Sent
mod Endings
pub mod Faults
pub mod Heard
pub mod OverFiles
pub mod ReadItems
pub mod Taken
pub mod Ways
pub mod Complete
pub mod Carried
pub mod AsTheyAre
pub mod Left
pub mod Refusals
