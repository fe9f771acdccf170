pub mod Parts
pub mod Moves
pub mod Bounds
pub mod WellFormed
