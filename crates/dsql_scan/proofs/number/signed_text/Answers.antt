use Rattle.std.proofs.Common.{◌≡◌, true, w64, to_z, of_z, rules, sym, ap, ◌∙◌}
use Rattle.dsql_scan.specs.Numbers.{are_digits, without_sign}
use Rattle.dsql_scan.specs.Table.{signed_cell, signed_cell_of}
use Rattle.dsql_scan.proofs.Spelling.{signed_number-read, signed-refused}
use Rattle.dsql_scan.proofs.number.signed_text.Goals as goal

pub returns-in-Ok : goal.returns-in-Ok
returns-in-Ok c =
    let digits : are_digits (without_sign c.args.text.now) ≡ true = search rules in
    let same : to_z w64 (of_z w64 c.in-Ok.number) ≡ c.in-Ok.number = search rules in
    c.signed_cell.ensures
    ∙ ap (signed_cell c.args.greatest) same
    ∙ sym (ap (signed_cell_of c.args.greatest) (signed_number-read c.args.text.now c.in-Ok.number c.parse.result c.parse.ensures.value.0 digits c.in-Ok.is))

pub returns-in-Err : goal.returns-in-Err
returns-in-Err c =
    let digits : are_digits (without_sign c.args.text.now) ≡ true = search rules in
    sym (signed-refused c.args.greatest c.args.text.now c.parse.result c.in-Err.field-0 c.requires c.parse.ensures.value.0 digits c.in-Err.is)
