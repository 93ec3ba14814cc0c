pub mod EligibleLaws
pub mod RankedLaws
pub mod RankLaws
pub mod ServingLaws
pub mod SortLaws
