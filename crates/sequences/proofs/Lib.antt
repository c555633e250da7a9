pub mod Stores
pub mod Sorted
pub mod Library
