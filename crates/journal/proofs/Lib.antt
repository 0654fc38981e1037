pub mod StepLaws
pub mod MakerLaws
pub mod PlayLaws
