pub mod Errors
pub mod Texts
pub mod Pieces
pub mod Counts
