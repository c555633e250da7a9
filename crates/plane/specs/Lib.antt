pub mod Format
pub mod Body
pub mod Values
pub mod Contents
