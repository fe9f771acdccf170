pub use Rattle.dsql_laws_calls.specs.value as value
pub use Rattle.dsql_laws_calls.specs.driver as driver
pub use Rattle.dsql_laws_calls.specs.tx as tx
pub use Rattle.dsql_laws_calls.specs.course as course
pub use Rattle.dsql_laws_calls.specs.journal as journal
pub use Rattle.dsql_laws_calls.specs.wait as wait
pub use Rattle.dsql_laws_calls.specs.pool as pool
pub use Rattle.dsql_laws_calls.specs.works as works
pub use Rattle.dsql_laws_calls.specs.history as history
pub use Rattle.dsql_follows.specs as follows
pub use Rattle.dsql_laws_calls.specs.laws as laws
pub use Rattle.dsql_laws_calls.specs as laws_calls
pub use Rattle.dsql_laws_due.specs as laws_due
pub use Rattle.dsql_laws_steps.specs as laws_steps
pub use Rattle.dsql_laws_ends.specs as laws_ends
pub use Rattle.dsql_engine_exchanged.specs as exchanged
pub use Rattle.dsql_engine_effects.specs as effects
pub use Rattle.dsql_engine_desk.specs as desk
pub mod Permits
pub mod Answers
pub mod Reaching
pub mod Stepping
