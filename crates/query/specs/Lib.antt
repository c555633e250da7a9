pub mod Query
pub mod Opened
pub mod Claim
