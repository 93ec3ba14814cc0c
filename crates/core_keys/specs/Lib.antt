pub mod Lacking
pub mod Picked
pub mod Queued
