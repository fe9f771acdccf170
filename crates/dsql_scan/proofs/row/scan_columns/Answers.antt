use Rattle.std.proofs.Common.{◌≡◌, length, ◌++◌, ◌∷◌, [], Ok, Err, ◌∙◌, ap, sym, rules}
use Rattle.std.proofs.lemmas.List.{length_push}
use Rattle.std.proofs.lemmas.Slice.Zip.{zip_turn, zip_end}
use Rattle.dsql_scan.specs.Rows.{in_32_bits}
use Rattle.dsql_scan.specs.Table.{scan_of}
use Rattle.dsql_scan.proofs.RowLemmas.{HasScanned-more, refused-next, all-scanned}
use Rattle.dsql_scan.proofs.row.scan_columns.Goals as goal

pub loop-value-preserved : goal.loop-value-preserved
loop-value-preserved c =
    let values = c.args.values.now in
    let dests = c.args.dests.now in
    let t = zip_turn values dests c.loop-value.yielded c.into_iter-value-iterator.result c.loop-value.value-iterator c.next.new.self c.next.result (search rules) (search rules) c.loop-value.yielded_by (c.in-Some.value, c.in-Some.dest) c.in-Some.is c.next.ensures.steps in
    let pushed : c.push.new.self.items ≡ c.loop-value.cells.items ++ c.in-Ok.cell ∷ [] = search rules in
    rw (pushed, length_push c.loop-value.yielded (c.in-Some.value, c.in-Some.dest)) (HasScanned-more values dests _ _ c.loop-value.invariant c.in-Some.value.now c.in-Some.dest.now t.0 t.1 (t.2 _) (t.3 _) c.in-Ok.cell c.in-Ok.ensures.answer)

pub returns-in-Err-clause-answer : goal.returns-in-Err-clause-answer
returns-in-Err-clause-answer c =
    let values = c.args.values.now in
    let dests = c.args.dests.now in
    let t = zip_turn values dests c.loop-value.yielded c.into_iter-value-iterator.result c.loop-value.value-iterator c.next.new.self c.next.result (search rules) (search rules) c.loop-value.yielded_by (c.in-Some.value, c.in-Some.dest) c.in-Some.is c.next.ensures.steps in
    let refused : scan_of c.in-Some.value.now c.in-Some.dest.now ≡ Err c.in-Err.fault = search rules in
    let place : c.in_32_bits.result ≡ in_32_bits (length c.loop-value.cells.items) = search rules in
    λ _. rw place (refused-next values dests _ _ c.loop-value.invariant c.in-Some.value.now c.in-Some.dest.now t.0 t.1 (t.2 _) (t.3 _) _ c.in-Err.fault c.loop-value.invariant.count refused)

pub returns-clause-answer : goal.returns-clause-answer
returns-clause-answer c =
    let values = c.args.values.now in
    let dests = c.args.dests.now in
    let t = zip_end values dests c.loop-value.yielded c.into_iter-value-iterator.result c.loop-value.value-iterator c.next.new.self c.next.result (search rules) (search rules) c.loop-value.yielded_by c.in-None.is c.next.ensures.steps in
    all-scanned values dests _ _ c.loop-value.invariant t ∙ ap Ok (sym c.new.ensures)
