pub mod Finding
mod Moves
mod Steps
