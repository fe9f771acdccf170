pub use Rattle.dsql_hall_steps.proofs.player_wires as player_wires
pub use Rattle.dsql_hall_steps.proofs.player as player
pub use Rattle.dsql_hall_steps.proofs as hall_steps
pub mod Setting
pub mod Plans
pub mod Along
pub mod Last
pub mod Finished
