pub mod Draws
pub mod Examples
