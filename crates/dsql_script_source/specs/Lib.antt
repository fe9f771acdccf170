pub mod Script
pub mod Naming
pub mod Racing
pub mod Stops
pub mod Reading
pub mod Plays
pub mod Position
