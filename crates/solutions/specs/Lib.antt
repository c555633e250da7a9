pub mod Solution
pub mod Solver
pub mod Posing
pub mod Invertible
