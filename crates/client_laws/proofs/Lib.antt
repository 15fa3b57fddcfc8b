mod Common
pub mod RefusalLaws
mod RoundLaws
pub mod RunStepLaws
pub mod StepLaws
pub mod StandLaws
mod VerdictLaws
pub mod StayLaws
mod InTurnLaws
pub mod RunLaws
mod OrderLaws
