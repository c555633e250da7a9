pub mod Residuals
