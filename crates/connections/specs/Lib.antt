pub mod Connections
pub mod Numbers
pub mod History
