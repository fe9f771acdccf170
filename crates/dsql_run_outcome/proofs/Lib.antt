pub use Rattle.dsql_script_source.proofs as script_source
pub use Rattle.dsql_script_show.proofs as script_show
pub use Rattle.dsql_hall.proofs.player_wires as player_wires
pub use Rattle.dsql_hall.proofs.player as player
pub use Rattle.dsql_hall.proofs as hall
pub mod Following
pub mod Saying
pub mod Writing
pub mod Lines
pub mod Finished
pub mod Ending
pub mod Asking
pub mod Telling
pub mod Summed
pub mod Racing
