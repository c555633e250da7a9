pub mod Within
pub mod Terms
pub mod Points
pub mod Listed
pub mod Refuses
pub mod Same
pub mod Edges
