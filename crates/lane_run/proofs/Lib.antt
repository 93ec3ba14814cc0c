mod Inputs
mod LaneSoFar
mod DroveSoFar
pub mod Turning
pub mod RanSo
