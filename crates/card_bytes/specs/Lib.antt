pub mod Bytes
pub mod Causes
pub mod Lists
pub mod Claim
