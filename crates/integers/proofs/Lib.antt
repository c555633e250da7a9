-- Laws of integers: linear arithmetic, identities, sizes, signs, sums, machine numbers, halves, ranges and tests. `Examples` is the guide.
pub mod Tests
pub mod Parts
pub mod Abs
pub mod Ring
pub mod Expr
pub mod Sign
pub mod Sums
pub mod Powers
pub mod I64
pub mod I16
pub mod Stores
pub mod Diff
pub mod Examples
pub mod Halves
pub mod Ranges
pub mod Search
pub mod Same
