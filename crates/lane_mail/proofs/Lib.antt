mod LaneLists
mod Carrying
mod Marks
mod Settled
pub mod Taking
mod Looking
mod Opening
mod Sending
pub mod Merging
