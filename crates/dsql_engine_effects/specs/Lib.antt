pub mod Heard
pub mod Starts
pub mod Ended
pub mod Once
pub mod Starting
