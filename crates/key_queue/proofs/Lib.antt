pub mod QueueLaws
pub mod TurnLaws
