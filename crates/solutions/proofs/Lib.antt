pub mod Lookup
pub mod Solve
pub mod SolverRight
pub mod Bounds
pub mod Edges
pub mod Posing
pub mod Inverse
