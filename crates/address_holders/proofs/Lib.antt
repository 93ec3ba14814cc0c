pub mod ClaimantLaws
pub mod HolderLaws
pub mod SlotLaws
