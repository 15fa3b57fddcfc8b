pub mod Stream
pub mod Frame
pub mod Serving
