-- The laws of ends and of scans follow by evaluation, and those of numbers from the laws of numbered things.
use Rattle.std.proofs.Common.{◌≡◌, true, cond, List, [], ◌∷◌, Option, Some, None, refl, ap, ◌∙◌}
use Rattle.std.specs.Prelude.{is_none, fold}
use Rattle.std.proofs.lemmas.Bool.{cond-true}
use Rattle.dsql_rows.specs.declared.end.RowsEnd.{RowsEnd}
use Rattle.dsql_rows.specs.declared.rows.Rows.{Rows}
use Rattle.dsql_rows.specs.OpenRows.{fresh, is_live, ended_by, scan_of, answer_of}
use Rattle.dsql_value_numbered.proofs.Numbers as numbered
use Rattle.dsql_rows.specs.Laws.{FirstEndStays, ScanReadsTheNewest, ChangesOneNumber}

-- Ending rows that have ended changes nothing.
stays_ended : (by end : RowsEnd) (rows : Rows) → rows.ended ≡ Some end → ended_by by rows ≡ rows
stays_ended by end rows h = ap (λ (o : Option RowsEnd). cond (is_none o) (record rows { ended = Some by }) rows) h

is_ended : (by : RowsEnd) (rows : Rows) → (end : RowsEnd) × ((ended_by by rows).ended ≡ Some end)
is_ended by rows =
    elim rows.ended as (λ o. (end : RowsEnd) × ((cond (is_none o) (record rows { ended = Some by }) (record rows { ended = o })).ended ≡ Some end)) [
      | None ↦ (by, refl)
      | Some end ↦ (end, refl)
    ]

all_stay : (later : List RowsEnd) (end : RowsEnd) (rows : Rows) → rows.ended ≡ Some end → fold (λ r by. ended_by by r) rows later ≡ rows
all_stay [] end rows h = refl
all_stay (by ∷ later) end rows h =
    let same = stays_ended by end rows h in
    ap (λ (r : Rows). fold (λ r by. ended_by by r) r later) same ∙ all_stay later end rows h

live_is_none : (o : Option RowsEnd) → is_none o ≡ true → o ≡ None
live_is_none None h = refl
live_is_none (Some end) h = cc

pub first_end_stays : FirstEndStays
first_end_stays = record {
  first = λ by rows live. ap (λ (r : Rows). r.ended) (cond-true (is_live rows) (record rows { ended = Some by }) rows live);
  stays = stays_ended;
  whatever_comes = λ by later rows. let ended = is_ended by rows in all_stay later ended.0 (ended_by by rows) ended.1;
}

pub scan_reads_the_newest : ScanReadsTheNewest
scan_reads_the_newest = record {
  none_yet = λ cursor columns dests. refl;
  reads = λ values rows dests live. ap (λ (o : Option RowsEnd). answer_of dests o (Some values)) (live_is_none rows.ended live);
  newest = λ older values rows. refl;
  ended = λ by rows dests live. ap (λ (r : Rows). scan_of r dests) (cond-true (is_live rows) (record rows { ended = Some by }) rows live);
}

pub changes_one_number : ChangesOneNumber
changes_one_number =
    let of_things = numbered.changes_one_number in
    record {
      made = λ n cursor columns rows new. of_things.made n (fresh cursor columns) rows new;
      changes = of_things.changes;
      others_beside_new = λ n other cursor columns rows apart. of_things.others_beside_new n other (fresh cursor columns) rows apart;
      others = of_things.others;
    }
