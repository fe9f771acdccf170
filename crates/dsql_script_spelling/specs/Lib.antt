pub mod Spelling
pub mod LineValues
pub mod LineArgs
pub mod Dests
pub mod CapsNames
