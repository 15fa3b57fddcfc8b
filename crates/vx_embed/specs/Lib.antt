pub mod Status
pub mod Ownership
pub mod Opens
pub mod ConnectionCalls
pub mod Serves
