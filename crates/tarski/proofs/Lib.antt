pub mod FlatSteps
pub mod Plain
pub mod DemandTwo
pub mod DemandThree
pub mod DemandOne
pub mod Written
pub mod Numbered
