pub mod NodeLemmas
mod NameLemmas
pub mod RankingLemmas
