pub use Rattle.dsql_engine_hearing.proofs.journal as journal
pub use Rattle.dsql_engine_hearing.proofs.laws_work as laws_work
pub use Rattle.dsql_engine_hearing.proofs.laws as laws
pub use Rattle.dsql_engine_hearing.proofs.laws_calls as laws_calls
pub use Rattle.dsql_engine_hearing.proofs.laws_steps as laws_steps
pub use Rattle.dsql_engine_hearing.proofs.laws_ends as laws_ends
pub use Rattle.dsql_engine_hearing.proofs.going as going
pub use Rattle.dsql_engine_hearing.proofs as hearing
pub mod Due
pub mod Senders
pub mod Flights
pub mod Answered
pub mod Leave
pub mod Later
pub mod Keeping
pub mod Begins
pub mod Steps
pub mod Turning
pub mod Blocked
pub mod Itself
pub mod Tidied
pub mod Made
pub mod Placed
pub mod Unmoved
pub mod StillDue
