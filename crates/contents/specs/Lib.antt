pub mod Contents
pub mod Counts
pub mod Distinct
