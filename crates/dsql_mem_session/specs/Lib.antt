pub mod Calls
pub mod Filled
pub mod Number
pub mod Session
pub mod Shape
pub mod Spelled
pub mod Statement
