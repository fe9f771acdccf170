pub use Rattle.dsql_value.specs as value
pub use Rattle.dsql_value_past.specs as past
pub use Rattle.dsql_driver.specs as driver
pub use Rattle.dsql_scan.specs as scan
pub use Rattle.dsql_cancel.specs as cancel
pub use Rattle.dsql_rows.specs as rows
pub use Rattle.dsql_course.specs as course
pub use Rattle.dsql_tenure_journal.specs as journal
pub mod Calls
pub mod Caps
pub mod Exchanges
pub mod HandedOut
pub mod Journals
pub mod Limits
pub mod Line
pub mod Replies
pub mod Same
pub mod Works
