pub mod Carried
