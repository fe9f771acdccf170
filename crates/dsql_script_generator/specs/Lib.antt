pub mod Counts
pub mod Faults
pub mod Script
pub mod Worked
pub mod Words
