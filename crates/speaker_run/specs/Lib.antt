pub mod Clauses
pub mod LaneClauses
pub mod Responding
pub mod ResponderClauses
pub mod ResponderSeen
pub mod ShownCauses
pub mod Standing
