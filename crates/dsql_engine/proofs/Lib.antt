pub mod Legality
pub mod Busy
pub mod Flying
pub mod Chores
pub mod Appended
pub mod Stepped
pub mod Lengths
