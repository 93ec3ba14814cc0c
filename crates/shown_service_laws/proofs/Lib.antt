mod Fields
pub mod EventTerms
mod Objects
mod Sets
