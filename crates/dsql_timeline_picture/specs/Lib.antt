pub use Rattle.dsql_timeline_page.specs as page
pub mod Lanes
pub mod Kinds
pub mod Names
pub mod Pictures
pub mod Worked
