pub mod Laws
pub mod Lists
pub mod Statements
pub mod Worked
