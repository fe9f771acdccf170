pub mod Digits
pub mod RowLemmas
pub mod Spelling
pub mod SpellingLaws
pub mod TableLaws
pub mod Utf8
pub mod Worked
