pub mod Fits
pub mod Kinds
pub mod Memory
pub mod Streams
pub mod Wires
pub mod Worked
