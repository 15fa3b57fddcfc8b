mod Common
pub mod LookLaws
pub mod RowLaws
