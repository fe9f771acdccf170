pub mod Tried
pub mod Calls
pub mod Settling
pub mod Tries
