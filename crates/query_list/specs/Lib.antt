pub mod Listing
pub mod Claim
