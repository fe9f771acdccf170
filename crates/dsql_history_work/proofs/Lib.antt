pub use Rattle.dsql_scan.proofs as scan
pub use Rattle.dsql_rows.proofs as rows
pub use Rattle.dsql_course.proofs as course
pub use Rattle.dsql_tenure_journal.proofs as journal
