pub mod Lengths
pub mod Pieces
pub mod Numbers
pub mod Digits
pub mod Refused
pub mod Written
pub mod Again
pub mod Examples
