pub mod Apply
pub mod CommandLine
pub mod Ended
pub mod Job
