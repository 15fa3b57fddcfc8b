pub mod Slices
pub mod Rows
pub mod Bands
pub mod Target
pub mod Second
pub mod Fits
