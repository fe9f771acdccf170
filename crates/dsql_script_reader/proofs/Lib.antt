pub mod ScriptCaps
pub mod ScriptTexts
pub mod ScriptForms
pub mod MadeLabels
