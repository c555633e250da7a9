pub mod Searches
pub mod Coefficients
pub mod Polynomials
pub mod Points
pub mod Order
