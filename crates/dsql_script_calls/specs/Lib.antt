pub mod ScriptWords
pub mod ScriptTexts
pub mod CallTargets
pub mod ScriptBegins
pub mod ScriptCalls
