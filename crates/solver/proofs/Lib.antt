pub mod Answers
pub mod Refusals
pub mod Claim
pub mod Edges
