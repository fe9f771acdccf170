use Rattle.std.proofs.Common.{◌≡◌, ◌^◌, ◌<◌, true, rules, sym, ap, ◌∙◌, arith}
use Rattle.dsql_scan.specs.Numbers.{are_digits}
use Rattle.dsql_scan.specs.Table.{unsigned_cell_of}
use Rattle.dsql_scan.proofs.Spelling.{plain_number-read, unsigned-refused}
use Rattle.dsql_scan.proofs.number.unsigned_text.Goals as goal

pub returns-in-Ok : goal.returns-in-Ok
returns-in-Ok c =
    let digits : are_digits c.args.text.now ≡ true = search rules in
    c.unsigned_cell.ensures ∙ sym (ap (unsigned_cell_of c.args.greatest) (plain_number-read c.args.text.now c.in-Ok.number c.parse.result c.parse.ensures.value.0 digits c.in-Ok.is))

pub returns-in-Err : goal.returns-in-Err
returns-in-Err c =
    let digits : are_digits c.args.text.now ≡ true = search rules in
    let narrow : c.args.greatest < 2 ^ 64 = omega arith in
    sym (unsigned-refused c.args.greatest c.args.text.now c.parse.result c.in-Err.field-0 narrow c.parse.ensures.value.0 digits c.in-Err.is)
