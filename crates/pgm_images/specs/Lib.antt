pub mod Marks
pub mod Header
pub mod Raster
pub mod Reading
pub mod Writing
pub mod Grammar
