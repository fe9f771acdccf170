pub mod Calls
pub mod Copies
pub mod Rows
pub mod Session
