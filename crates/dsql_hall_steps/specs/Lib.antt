pub use Rattle.dsql_engine_laws.specs.driver as driver
pub use Rattle.dsql_engine_laws.specs.journal as journal
pub use Rattle.dsql_engine_laws.specs.wire as wire
pub use Rattle.dsql_engine_laws.specs.history as history
pub use Rattle.dsql_engine_laws.specs.follows as follows
pub use Rattle.dsql_engine_laws.specs.laws_steps as laws_steps
pub use Rattle.dsql_engine_laws.specs.laws_ends as laws_ends
pub use Rattle.dsql_player_wires.specs as player_wires
pub use Rattle.dsql_player.specs as player
pub use Rattle.dsql_hall_bonds.specs as hall_bonds
pub mod Racing
pub mod Limits
pub mod Terms
pub mod Errands
pub mod Halls
pub mod Openings
pub mod House
pub mod Hearing
pub mod Steps
pub mod HouseSteps
pub mod Waking
