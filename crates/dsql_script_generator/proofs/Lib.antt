pub mod CountLemmas
pub mod ScriptLemmas
pub mod Examples
