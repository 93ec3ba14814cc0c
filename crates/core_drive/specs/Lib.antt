pub mod Drive
pub mod Laws
pub mod Settled
pub mod Sound
