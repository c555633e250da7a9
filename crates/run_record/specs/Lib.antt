pub mod Record
pub mod DemandOne
