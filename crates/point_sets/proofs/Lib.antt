pub mod Alike
pub mod Queries
pub mod Runs
pub mod Calls
