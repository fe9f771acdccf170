pub mod Report
pub mod Summary
pub mod Counting
pub mod Worked
