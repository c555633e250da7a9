pub mod Drawing
pub mod Storing
pub mod Calls
pub mod Examples
