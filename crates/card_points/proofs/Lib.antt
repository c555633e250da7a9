pub mod Distinct
pub mod Neighbours
