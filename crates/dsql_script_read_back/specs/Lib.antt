pub mod ReadBack
pub mod WorkedLines
