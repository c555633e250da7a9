pub mod Run
pub mod Demand
pub mod Truthful
pub mod Refusals
pub mod Reached
