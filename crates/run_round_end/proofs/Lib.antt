mod AndLaws
pub mod SplitLaws
pub mod StepLaws
pub mod MomentLaws
