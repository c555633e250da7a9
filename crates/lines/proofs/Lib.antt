pub mod Lengths
pub mod Decimals
pub mod Signed
pub mod Putting
