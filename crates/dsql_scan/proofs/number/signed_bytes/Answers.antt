use Rattle.std.proofs.Common.{sym, ap}
use Rattle.dsql_scan.specs.Table.{signed_cell_of}
use Rattle.dsql_scan.proofs.Utf8.{signed_number-not}
use Rattle.dsql_scan.proofs.number.signed_bytes.Goals as goal

pub returns-in-Err : goal.returns-in-Err
returns-in-Err c = sym (ap (signed_cell_of c.args.greatest) (signed_number-not c.args.bytes.now c.in-Err.ensures.cases.0))
