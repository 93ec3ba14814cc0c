pub mod Bytes
pub mod Cuts
pub mod PortSets
pub mod ReadBack
pub mod ReadingLaws
pub mod SharingLaws
pub mod Walks
