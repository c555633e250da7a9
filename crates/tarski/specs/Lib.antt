pub mod Flat
pub mod Plain
pub mod Claim
pub mod Written
pub mod Numbered
