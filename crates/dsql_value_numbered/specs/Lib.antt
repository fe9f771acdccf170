pub mod Numbered
pub mod Laws
