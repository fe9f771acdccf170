pub mod Pinned
pub mod Laws
pub mod Worked
