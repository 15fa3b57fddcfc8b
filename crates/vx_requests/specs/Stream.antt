pub mod Calls
pub mod FromRead
pub mod FromWrite
pub mod Transfer
