pub mod Block
pub mod Classes
pub mod Free
pub mod Shelf
pub mod Pool
