pub mod Firsts
pub mod NamedLanes
pub mod Reading
pub mod Tables
pub mod Values
