pub use Rattle.dsql_hall.specs.driver as driver
pub use Rattle.dsql_driver_stream.specs as stream
pub use Rattle.dsql_hall.specs.wire as wire
pub use Rattle.dsql_hall.specs.history as history
pub use Rattle.dsql_hall.specs.follows as follows
pub use Rattle.dsql_script_reader.specs as script_reader
pub use Rattle.dsql_script_source.specs as script_source
pub use Rattle.dsql_script_report.specs as script_report
pub use Rattle.dsql_script_show.specs as script_show
pub use Rattle.dsql_script_generator.specs as script_generator
pub use Rattle.dsql_hall.specs.laws_steps as laws_steps
pub use Rattle.dsql_hall.specs.player_wires as player_wires
pub use Rattle.dsql_hall.specs.player as player
pub use Rattle.dsql_hall.specs as hall
pub mod Followed
pub mod Runs
pub mod Notes
pub mod Ways
pub mod Headline
pub mod Playing
pub mod Racing
pub mod Summing
pub mod Lent
