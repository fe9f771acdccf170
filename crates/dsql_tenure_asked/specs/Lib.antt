pub mod Asked
pub mod Live
pub mod Left
