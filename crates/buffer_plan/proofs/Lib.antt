mod Common
pub mod EachLemmas
pub mod LiveLemmas
pub mod PlacingLemmas
pub mod SampleLemmas
pub mod RisingLemmas
pub mod OnceLemmas
pub mod PlanLemmas
pub mod LeastLemmas
pub mod VerifiedLemmas
pub mod TakenLemmas
