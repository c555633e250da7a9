pub mod Stores
pub mod Merge
pub mod Merging
pub mod Adapting
