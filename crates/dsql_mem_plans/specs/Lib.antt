pub mod Faults
pub mod Fleets
pub mod Log
pub mod Plans
pub mod Roll
pub mod WireLogs
