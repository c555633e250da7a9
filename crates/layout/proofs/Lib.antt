pub mod Twos
pub mod CoefficientLists
pub mod Contents
