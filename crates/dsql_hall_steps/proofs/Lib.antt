pub use Rattle.dsql_engine_laws.proofs as engine_laws
pub use Rattle.dsql_player_wires.proofs as player_wires
pub use Rattle.dsql_player.proofs as player
pub mod Ordered
pub mod Entering
pub mod Beginning
pub mod SetFirst
pub mod Ending
pub mod Out
pub mod Frames
pub mod Moving
pub mod Carrying
pub mod Answered
pub mod Sent
pub mod Setting
pub mod Chores
pub mod ChoreAnswered
pub mod Brought
pub mod Recorded
pub mod Ends
pub mod Housed
pub mod Returned
pub mod Heard
pub mod Stepped
pub mod MayGoOn
