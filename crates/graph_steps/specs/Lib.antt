pub mod Planes
pub mod Steps
pub mod Program
pub mod Halos
pub mod Runs
pub mod Tallies
pub mod Examples
