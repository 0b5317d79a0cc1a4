pub mod CertificateLemmas
pub mod ChoiceLemmas
pub mod CostLemmas
pub mod ExistLemmas
pub mod PlanLemmas
pub mod RestLemmas
pub mod SuffixLemmas
