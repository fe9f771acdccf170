pub mod Conjunctions
pub mod Sentences
pub mod Beginnings
pub mod Tenures
pub mod Wholes
pub mod Numbers
pub mod Examples
pub mod PlainJournals
