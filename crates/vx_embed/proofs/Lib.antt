pub mod Steps
pub mod HandleValues
pub mod TwoParts
pub mod TurnAnswers
