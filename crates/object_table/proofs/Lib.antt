mod Common
pub mod DelayLemmas
pub mod SlotLemmas
pub mod SkeletonLaws
pub mod AgeLemmas
pub mod BlockLaws
pub mod HeldLemmas
pub mod EntryLemmas
pub mod UseLemmas
pub mod KeptLemmas
pub mod EntryBlockLemmas
pub mod GraphLemmas
