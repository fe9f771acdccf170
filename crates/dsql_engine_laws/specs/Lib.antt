pub use Rattle.dsql_engine_hearing.specs.driver as driver
pub use Rattle.dsql_engine_hearing.specs.course as course
pub use Rattle.dsql_engine_hearing.specs.journal as journal
pub use Rattle.dsql_tenure.specs as tenure
pub use Rattle.dsql_engine_hearing.specs.wait as wait
pub use Rattle.dsql_engine_hearing.specs.pool as pool
pub use Rattle.dsql_wire.specs as wire
pub use Rattle.dsql_engine_hearing.specs.history as history
pub use Rattle.dsql_engine_hearing.specs.follows as follows
pub use Rattle.dsql_engine_hearing.specs.laws_steps as laws_steps
pub use Rattle.dsql_engine_hearing.specs.laws_ends as laws_ends
pub use Rattle.dsql_engine_hearing.specs.exchanged as exchanged
pub use Rattle.dsql_engine_hearing.specs.going as going
pub use Rattle.dsql_engine_hearing.specs as hearing
pub mod Leaves
pub mod Turns
pub mod Chores
