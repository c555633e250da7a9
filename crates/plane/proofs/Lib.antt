pub mod Bounds
pub mod PowerLists
pub mod Turns
pub mod Contents
pub mod Examples
