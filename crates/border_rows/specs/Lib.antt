pub mod Seen
pub mod RowWindow
