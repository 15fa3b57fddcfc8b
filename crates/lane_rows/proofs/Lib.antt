mod Common
mod BlockLaws
mod Lanewise
mod LaneLaws
mod ScaleLaws
mod ByteLaws
mod DigitLaws
mod QuarterLaws
mod ShortLaws
mod NarrowLaws
mod ShortLanes
mod ThresholdLaws
mod StoreLaws
pub mod CountLaws
pub mod ExtentLaws
mod RunningLaws
mod TallyLaws
pub mod RunLaws
pub mod MedianLaws
mod NineLaws
mod GradientLaws
mod AxpyLaws
mod ThreeLaws
mod SampleLaws
mod DepthLaws
mod SumLaws
pub mod BitLaws
mod PairLaws
mod MatrixSumLaws
