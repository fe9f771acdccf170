pub mod CursorLemmas
pub mod LawfulLemmas
pub mod NumberLemmas
pub mod SessionLemmas
