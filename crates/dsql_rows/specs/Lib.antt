pub mod Ends
pub mod OpenRows
pub mod Laws
pub mod Worked
