pub mod Sums
pub mod Gathering
