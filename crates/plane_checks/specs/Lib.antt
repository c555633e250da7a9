pub mod Checks
pub mod Claim
