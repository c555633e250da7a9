-- Definitions over the integers: sums, signs, halves, ranges, powers and tests.
pub mod Sums
pub mod Sign
pub mod Half
pub mod Range
pub mod Parts
pub mod Powers
pub mod Search
pub mod Same
