pub mod ConnectionLemmas
pub mod Crossing
pub mod HolderLemmas
pub mod RowLemmas
pub mod ServedLemmas
pub mod ValueLemmas
pub mod WireLemmas
