pub mod Entries
pub mod Running
pub mod Waking
