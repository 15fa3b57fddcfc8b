mod Common
pub mod SeenLaws
