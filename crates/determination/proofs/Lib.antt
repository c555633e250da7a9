pub mod Lengths
pub mod Serves
pub mod Worlds
pub mod Contracts
pub mod DemandOne
