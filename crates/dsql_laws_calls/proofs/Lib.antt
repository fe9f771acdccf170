pub use Rattle.dsql_laws.proofs.numbered as numbered
pub use Rattle.dsql_laws.proofs.rows as rows
pub use Rattle.dsql_laws.proofs.journal as journal
pub use Rattle.dsql_laws.proofs.pool as pool
pub use Rattle.dsql_laws_work.proofs as laws_work
pub use Rattle.dsql_laws.proofs as laws
pub mod Cases
pub mod Found
pub mod EndedRows
pub mod LiveRows
pub mod KeptThere
pub mod Lists
pub mod Open
pub mod Stays
pub mod Owners
pub mod Born
pub mod Lent
pub mod Owed
pub mod Works
pub mod Looks
pub mod Looked
pub mod Falls
pub mod Refusals
pub mod Rows
pub mod Untried
pub mod Closed
pub mod Wanted
pub mod Enders
pub mod Plain
pub mod Makers
pub mod Begun
pub mod AtEnd
pub mod Lines
pub mod Own
pub mod Idle
pub mod Told
pub mod Nowhere
pub mod TxEnders
pub mod Ends
pub mod Tidying
pub mod Tenures
pub mod InnerLines
pub mod Quiet
pub mod Inside
pub mod Why
pub mod Beginnings
pub mod BeginningsAt
pub mod LineParts
pub mod HandedRows
pub mod CallTenures
pub mod UnderWay
pub mod DueWay
pub mod DueLent
pub mod StaysUnderWay
pub mod Sound
pub mod Coming
pub mod Exchanged
pub mod RowsKept
pub mod RowsNew
pub mod Spared
pub mod Unspoilt
pub mod FirstAnswers
pub mod Wanters
pub mod Itself
