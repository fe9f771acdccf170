pub mod KeptTries
pub mod MovesMade
pub mod Borrowers
pub mod CallRows
pub mod Settled
