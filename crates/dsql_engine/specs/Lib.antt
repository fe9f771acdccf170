pub mod Core
pub mod Chores
pub mod Hearing
