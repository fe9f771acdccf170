pub mod Made
pub mod WiresFit
pub mod Asked
pub mod Told
pub mod Stopped
pub mod Extends
pub mod Seats
