pub use Rattle.dsql_laws.specs.value as value
pub use Rattle.dsql_laws.specs.numbered as numbered
pub use Rattle.dsql_laws.specs.driver as driver
pub use Rattle.dsql_laws.specs.scan as scan
pub use Rattle.dsql_laws.specs.cancel as cancel
pub use Rattle.dsql_laws.specs.rows as rows
pub use Rattle.dsql_laws.specs.tx as tx
pub use Rattle.dsql_laws.specs.course as course
pub use Rattle.dsql_laws.specs.journal as journal
pub use Rattle.dsql_laws.specs.wait as wait
pub use Rattle.dsql_laws.specs.pool as pool
pub use Rattle.dsql_laws.specs.works as works
pub use Rattle.dsql_laws.specs.history as history
pub use Rattle.dsql_laws.specs as laws
pub mod Made
pub mod Bounds
pub mod UnderWay
pub mod Kept
pub mod There
pub mod Chores
pub mod Nothing
