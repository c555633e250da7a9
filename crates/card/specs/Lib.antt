pub mod Kinds
pub mod Card
pub mod Sound
pub mod Answers
pub mod Longest
pub mod Claim
pub mod Finer
