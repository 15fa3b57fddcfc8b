pub mod Fits
pub mod Given
pub mod Rotated
pub mod Examples
pub mod ByColumns
