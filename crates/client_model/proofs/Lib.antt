mod Common
pub mod NamedLaws
pub mod HoldLaws
pub mod StateLaws
pub mod OutcomeLaws
pub mod ImageStepLaws
pub mod DelayStepLaws
pub mod NodeStepLaws
pub mod GraphStepLaws
pub mod BegunLaws
