-- Proves that every unfinished call that looks at what is there has its reply. The argument is by induction on
-- the history.
use Rattle.std.proofs.Common.{◌≡◌, ◌≢◌, ℕ, ◌==◌, ◌⊎◌, inl, inr, true, false, List, [], ◌∷◌, length, Option, Some, None, is_some, refl, sym, ap, ◌∙◌}
use Rattle.std.specs.Prelude.{Ok, Err}
use Rattle.dsql_laws.specs.value.declared.value.Value.{Value}
use Rattle.dsql_laws.specs.scan.declared.dest.Dest.{Dest}
use Rattle.dsql_laws.specs.scan.Rows.{RowScan, row_of}
use Rattle.dsql_laws.specs.rows.declared.rows.Rows.{Rows}
use Rattle.dsql_laws.specs.rows.declared.end.RowsEnd.{RowsEnd}
use Rattle.dsql_laws.specs.rows.OpenRows.{scan_answer, answer_of}
use Rattle.dsql_laws.specs.journal.declared.entry.Entry.{Entry}
use Rattle.dsql_laws.proofs.Tests.{other_number}
use Rattle.dsql_laws_work.proofs.Rows.{same_or_not}
use Rattle.dsql_laws.specs.history.declared.event.Event.{Event}
use Rattle.dsql_laws.specs.history.declared.event.Event.TheVariants.{Entered, Heard, Replied}
use Rattle.dsql_laws.specs.history.declared.event.Op.{Op}
use Rattle.dsql_laws.specs.history.declared.event.Op.TheVariants as ops
use Rattle.dsql_laws.specs.history.Readers.Unfinished.{is_unfinished}
use Rattle.dsql_laws.specs.history.Readers.Works.{works, work, work_of}
use Rattle.dsql_laws.specs.history.Readers.Pool.{place}
use Rattle.dsql_laws.specs.history.Readers.Calls.{calls, decided, told_at_entry, rows_for}
use Rattle.dsql_laws.specs.history.Readers.Decisions.{told_row, rows_reply, scan_reply}
use Rattle.dsql_laws.specs.history.Legal.{Allowed, Lawful}
use Rattle.dsql_laws.proofs.Numbered.{unfinished_from_one}
use Rattle.dsql_laws_calls.proofs.Works.{is_look, enters_next, new_record, new_work, old_record, old_work, other_heard, other_replied, old_unfinished, still_unfinished}
use Rattle.dsql_laws_calls.proofs.Looks.{told_any, sent_no_look, heard_there, comes}

-- The reply of an operation on rows.

told_answer : (row : RowScan) → is_some (told_row row) ≡ true → is_some (scan_reply (scan_answer row)) ≡ true
told_answer (Ok cells) h = refl
told_answer (Err why) h = h

told_scan : (dests : List Dest) (ended : Option RowsEnd) (current : Option (List Value)) → is_some (scan_reply (answer_of dests ended current)) ≡ true
told_scan dests (Some end) current = refl
told_scan dests None None = refl
told_scan dests None (Some values) = told_answer (row_of values dests) (told_any values dests)

told_of_scan : (o : Option Rows) (label : List ℕ) (dests : List Dest) → is_some (rows_reply o (ops.Scan label dests)) ≡ true
told_of_scan None label dests = refl
told_of_scan (Some rows) label dests = told_scan dests rows.ended rows.current

told_of_err : (o : Option Rows) (label : List ℕ) → is_some (rows_reply o (ops.Err label)) ≡ true
told_of_err None label = refl
told_of_err (Some rows) label = refl

-- An operation that looks at what is there has its reply as it enters.
told_at_once : (H : List Event) (op : Op) → is_look (work_of (works H) op) ≡ true → is_some (told_at_entry H op) ≡ true
told_at_once H (ops.Scan rows dests) h = told_of_scan (rows_for H (ops.Scan rows dests)) rows dests
told_at_once H (ops.Err rows) h = told_of_err (rows_for H (ops.Err rows)) rows
told_at_once H ops.DbClose h = refl
told_at_once H ops.Stats h = refl
told_at_once H _ h = absurd cc

-- No answer is heard for a call that looks at what is there.
never_heard : (H : List Event) (e : Entry) (n : ℕ) → Allowed H (Heard e) → n ≢ 0 → is_look (work H n) ≡ true → n ≢ e.call_no
never_heard H e n a some look same =
    let there = heard_there H e a in
    let not_layer : (e.call_no == 0) ≡ false = other_number e.call_no 0 (λ none. some (same ∙ none)) in
    let sent = sent_no_look H e (comes H e (place H e.conn) there.sets there.line not_layer) not_layer in
    let clash : true ≡ false = sym look ∙ (ap (λ m. is_look (work H m)) same ∙ sent) in
    cc

pub looked : (H : List Event) (n : ℕ) → Lawful H → is_unfinished H n ≡ true → is_look (work H n) ≡ true → is_some (decided H n) ≡ true
looked [] n l u look = absurd cc
looked (Entered client m op ∷ H) n l u look = by (looked H n l.0) (same_or_not n m)
  where
    new : m ≡ length (calls H)
    new = enters_next H client m op l.1

    by : (is_unfinished H n ≡ true → is_look (work H n) ≡ true → is_some (decided H n) ≡ true) → (n ≡ m) ⊎ (n ≢ m) → is_some (decided (Entered client m op ∷ H) n) ≡ true
    by earlier (inl same) =
        let its : is_look (work_of (works H) op) ≡ true = sym (ap is_look (ap (work (Entered client m op ∷ H)) same ∙ new_work H client m op new)) ∙ look in
        ap (λ k. is_some (decided (Entered client m op ∷ H) k)) same ∙ (ap (λ r. is_some r.decided) (new_record H client m op new) ∙ told_at_once H op its)
    by earlier (inr apart) =
        let before = earlier (sym (old_unfinished H client m op n apart) ∙ u) (sym (ap is_look (old_work H client m op n new apart)) ∙ look) in
        ap (λ r. is_some r.decided) (old_record H client m op n new apart) ∙ before
looked (Heard e ∷ H) n l u look =
    let some : n ≢ 0 = unfinished_from_one H n l.0 u in
    ap (λ r. is_some r.decided) (other_heard H e n (never_heard H e n l.1 some look)) ∙ looked H n l.0 u look
looked (Replied m reply ∷ H) n l u look =
    let b = still_unfinished H m reply n u in
    ap (λ r. is_some r.decided) (other_replied H m reply n b.0) ∙ looked H n l.0 b.1 look
looked (_ ∷ H) n l u look = looked H n l.0 u look
