pub mod Lists
pub mod Signs
pub mod Adapted
pub mod Bits
pub mod Tally
pub mod Order
pub mod Digits
