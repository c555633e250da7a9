pub mod Printout
pub mod Progress
pub mod Written
pub mod Steps
