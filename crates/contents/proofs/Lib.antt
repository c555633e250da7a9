pub mod Patterns
pub mod Digits
pub mod Counts
pub mod Distinct
pub mod Once
pub mod Examples
