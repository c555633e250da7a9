pub mod Records
pub mod Rounds
pub mod Promises
