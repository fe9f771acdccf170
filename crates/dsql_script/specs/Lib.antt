pub use Rattle.dsql_script_forms.specs as forms
pub use Rattle.dsql_script_reader.specs as reader
pub use Rattle.dsql_script_report.specs as report
pub use Rattle.dsql_script_event_reader.specs as event_reader
