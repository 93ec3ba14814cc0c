pub mod PlainSums
pub mod Valid
