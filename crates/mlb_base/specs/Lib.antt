pub mod Cases
pub mod Items
