pub mod Thin
pub mod Arrays
pub mod Pieces
pub mod LentRead
pub mod LentPass
