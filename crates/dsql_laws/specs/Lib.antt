pub use Rattle.dsql_history.specs.value as value
pub use Rattle.dsql_history.specs.numbered as numbered
pub use Rattle.dsql_history.specs.driver as driver
pub use Rattle.dsql_history.specs.scan as scan
pub use Rattle.dsql_history.specs.cancel as cancel
pub use Rattle.dsql_history.specs.rows as rows
pub use Rattle.dsql_history.specs.tx as tx
pub use Rattle.dsql_history.specs.course as course
pub use Rattle.dsql_history.specs.journal as journal
pub use Rattle.dsql_history.specs.wait as wait
pub use Rattle.dsql_history.specs.pool as pool
pub use Rattle.dsql_history.specs.works as works
pub use Rattle.dsql_history.specs as history
pub mod Holdings
pub mod Splits
pub mod OwedMade
pub mod Leaving
pub mod Asked
