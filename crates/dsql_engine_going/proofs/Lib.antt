pub use Rattle.dsql_laws_calls.proofs.journal as journal
pub use Rattle.dsql_laws_calls.proofs.pool as pool
pub use Rattle.dsql_laws_calls.proofs.laws_work as laws_work
pub use Rattle.dsql_laws_calls.proofs.laws as laws
pub use Rattle.dsql_laws_calls.proofs as laws_calls
pub use Rattle.dsql_laws_callers.proofs as laws_callers
pub use Rattle.dsql_laws_others.proofs as laws_others
pub use Rattle.dsql_laws_due.proofs as laws_due
pub use Rattle.dsql_laws_steps.proofs as laws_steps
pub use Rattle.dsql_laws_ends.proofs as laws_ends
pub use Rattle.dsql_engine_lines.proofs as lines
pub use Rattle.dsql_engine_desk.proofs as desk
pub mod Groups
pub mod Resting
pub mod Sameness
pub mod Standing
pub mod Replying
pub mod Leaves
pub mod Asking
pub mod SettledBut
pub mod Carried
pub mod GoneOn
pub mod Settling
pub mod Stepping
