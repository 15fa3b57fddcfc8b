pub mod Lives
pub mod Slots
pub mod Placed
pub mod Plan
pub mod Places
