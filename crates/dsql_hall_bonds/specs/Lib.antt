pub use Rattle.dsql_history.specs as history
pub mod Work
pub mod Unpicked
pub mod Passes
