pub mod Windows
pub mod FirstLines
pub mod HandingOut
pub mod Fronts
pub mod AllLines
pub mod EndedLines
