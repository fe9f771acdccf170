pub mod Entries
pub mod Told
pub mod Beside
pub mod Ends
pub mod GivenUp
