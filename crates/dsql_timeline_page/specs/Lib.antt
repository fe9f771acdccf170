pub mod Escape
pub mod Bars
pub mod Heads
pub mod Worked
