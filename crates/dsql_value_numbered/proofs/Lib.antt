pub mod Changes
pub mod EachThing
pub mod Numbers
pub mod Kept
