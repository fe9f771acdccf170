pub mod Refusing
pub mod CheckingNames
pub mod Keeping
