pub mod World
pub mod Applies
pub mod Calls
pub mod Lookup
pub mod Steps
pub mod Blocks
pub mod Kept
pub mod Incoming
