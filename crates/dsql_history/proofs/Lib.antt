pub use Rattle.dsql_value_numbered.proofs as numbered
pub use Rattle.dsql_history_work.proofs.scan as scan
pub use Rattle.dsql_history_work.proofs.rows as rows
pub use Rattle.dsql_history_work.proofs.journal as journal
pub use Rattle.dsql_pool.proofs as pool
