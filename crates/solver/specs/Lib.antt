pub mod Solving
pub mod Claim
