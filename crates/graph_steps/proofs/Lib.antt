mod Common
pub mod KernelLaws
pub mod PlaneLaws
pub mod StepLaws
pub mod BandLaws
pub mod AgreeLaws
pub mod TallyLaws
pub mod ReduceLaws
pub mod RunLaws
pub mod HaloLaws
pub mod ExampleLaws
pub mod SumLaws
