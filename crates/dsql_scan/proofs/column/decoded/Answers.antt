use Rattle.std.proofs.Common.{rules, refl}
use Rattle.dsql_scan.proofs.Utf8.{is_utf8-not, decoded-text}
use Rattle.dsql_scan.proofs.column.decoded.Goals as goal

pub returns-in-Err : goal.returns-in-Err
returns-in-Err c = rw (is_utf8-not c.args.bytes.now c.in-Err.ensures.cases.0) refl

pub returns-in-Ok : goal.returns-in-Ok
returns-in-Ok c = rw (decoded-text c.args.bytes.now c.in-Ok.ensures.cases.1) (search rules)
