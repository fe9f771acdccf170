pub mod Changes
pub mod Closes
pub mod Counts
pub mod Dropped
pub mod HandedOut
pub mod OneEach
pub mod Places
pub mod Seen
