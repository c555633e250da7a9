pub mod Words
pub mod Listed
pub mod Counting
pub mod Opening
pub mod Own
pub mod Answers
pub mod Calls
pub mod Edges
