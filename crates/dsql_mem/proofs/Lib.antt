pub mod Crossing
pub mod EffectLemmas
pub mod Examples
pub mod PlanLemmas
pub mod RollbackLaw
pub mod WireLemmas
