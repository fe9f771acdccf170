pub use Rattle.dsql_history.proofs.numbered as numbered
pub use Rattle.dsql_history.proofs.scan as scan
pub use Rattle.dsql_history.proofs.rows as rows
pub use Rattle.dsql_history.proofs.journal as journal
pub use Rattle.dsql_history.proofs.pool as pool
pub mod Tests
pub mod OwedMoves
pub mod Counts
pub mod Tried
pub mod Deserved
pub mod ByCall
pub mod Wanted
pub mod Places
pub mod Outdated
pub mod Able
pub mod AbleMoves
pub mod Truths
pub mod AskedAllowed
pub mod Splits
pub mod Owners
pub mod Asker
pub mod Numbered
pub mod AtRest
pub mod Journals
pub mod Holdings
pub mod Wanting
pub mod Standing
pub mod Welcome
pub mod OwedAllowed
pub mod GivenBack
pub mod Decide
