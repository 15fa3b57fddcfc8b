pub mod Clients
pub mod Answer
pub mod Lost
pub mod Turn
pub mod OneFrame
pub mod LongReplies
pub mod Ends
pub mod Session
