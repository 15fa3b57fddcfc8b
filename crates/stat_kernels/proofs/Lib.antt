mod Common
pub mod PlaceLaws
mod TallyLaws
pub mod MergeLaws
pub mod BandLaws
pub mod AlikeLaws
mod ExtremeLaws
pub mod ScanLaws
mod SumLaws
