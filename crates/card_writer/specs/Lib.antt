pub mod Writing
pub mod Claim
