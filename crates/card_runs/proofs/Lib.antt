pub mod Counted
pub mod Truthful
pub mod Runs
pub mod Calls
