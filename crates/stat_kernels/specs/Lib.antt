pub mod Counts
pub mod Extreme
pub mod Part
pub mod Sums
