pub use Rattle.dsql_engine_going.proofs.journal as journal
pub use Rattle.dsql_engine_going.proofs.pool as pool
pub use Rattle.dsql_engine_going.proofs.laws_work as laws_work
pub use Rattle.dsql_engine_going.proofs.laws as laws
pub use Rattle.dsql_engine_going.proofs.laws_calls as laws_calls
pub use Rattle.dsql_engine_going.proofs.laws_callers as laws_callers
pub use Rattle.dsql_engine_going.proofs.laws_others as laws_others
pub use Rattle.dsql_engine_going.proofs.laws_due as laws_due
pub use Rattle.dsql_engine_going.proofs.laws_steps as laws_steps
pub use Rattle.dsql_engine_going.proofs.laws_ends as laws_ends
pub use Rattle.dsql_engine_going.proofs.lines as lines
pub use Rattle.dsql_engine_going.proofs.desk as desk
pub use Rattle.dsql_engine_going.proofs as going
pub mod Welcome
pub mod Letting
pub mod Steps
pub mod Lent
pub mod StayingDue
