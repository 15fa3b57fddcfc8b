pub mod Radius
pub mod Rows
pub mod Examples
