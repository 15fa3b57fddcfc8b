pub mod FaultLemmas
pub mod MadeLemmas
pub mod QuotaLemmas
