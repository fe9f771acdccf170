pub mod Told
pub mod Journaled
pub mod Opening
pub mod Calling
