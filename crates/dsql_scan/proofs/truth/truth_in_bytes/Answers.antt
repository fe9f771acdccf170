use Rattle.std.proofs.Common.{sym}
use Rattle.dsql_scan.proofs.Utf8.{spelled_truth-not}
use Rattle.dsql_scan.proofs.truth.truth_in_bytes.Goals as goal

pub returns-in-Err : goal.returns-in-Err
returns-in-Err c = sym (spelled_truth-not c.args.bytes.now c.in-Err.ensures.cases.0)
