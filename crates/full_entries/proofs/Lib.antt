pub mod FullLaws
pub mod PlaceLaws
