pub mod There
pub mod Inside
pub mod Lines
pub mod Once
pub mod Sent
