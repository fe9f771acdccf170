pub mod ScriptOnLiterals
