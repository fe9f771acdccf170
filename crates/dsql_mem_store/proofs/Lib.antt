pub mod Ascending
pub mod DelLaw
pub mod EntryLemmas
pub mod ListLaw
pub mod Prefix
pub mod SetLaw
