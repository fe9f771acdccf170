pub mod Groups
pub mod Worked
pub mod Steps
pub mod Whole
