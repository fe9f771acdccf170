pub use Rattle.dsql_hall_steps.specs.driver as driver
pub use Rattle.dsql_hall_steps.specs.wire as wire
pub use Rattle.dsql_hall_steps.specs.history as history
pub use Rattle.dsql_hall_steps.specs.follows as follows
pub use Rattle.dsql_hall_steps.specs.laws_steps as laws_steps
pub use Rattle.dsql_hall_steps.specs.laws_ends as laws_ends
pub use Rattle.dsql_hall_steps.specs.player_wires as player_wires
pub use Rattle.dsql_hall_steps.specs.player as player
pub use Rattle.dsql_hall_steps.specs as hall_steps
pub mod Raced
pub mod Fleets
pub mod Calls
pub mod Ends
pub mod Worked
