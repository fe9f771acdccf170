pub mod Numbers
pub mod Truths
pub mod Table
pub mod Answers
pub mod Rows
pub mod Laws
pub mod Worked
