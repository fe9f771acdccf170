pub mod Few
pub mod Drawing
pub mod Once
pub mod Within
pub mod Named
