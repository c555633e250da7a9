pub mod Among
pub mod Refusals
pub mod Causes
