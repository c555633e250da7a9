pub mod Drawn
pub mod Claim
