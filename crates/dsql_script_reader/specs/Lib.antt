pub mod ScriptHead
pub mod ScriptPlans
pub mod ScriptLines
pub mod ScriptLabels
