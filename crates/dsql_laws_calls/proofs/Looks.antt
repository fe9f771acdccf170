-- Proves that a call that looks at what is there sends nothing, and that a scanned row always has a reply. The
-- argument is that a driver call is due only for other work.
use Rattle.std.proofs.Common.{◌≡◌, ℕ, ◌+◌, ◌==◌, ◌⊎◌, inl, inr, Bool, true, false, not, ◌&&◌, cond, List, [], ◌∷◌, length, Option, Some, None, is_some, refl, sym, ap, ◌∙◌, subst, if◌then◌else◌}
use Rattle.std.proofs.lemmas.Bool.{or_cases}
use Rattle.std.specs.Prelude.{Ok, Err}
use Rattle.dsql_laws.specs.value.declared.value.Value.{Value}
use Rattle.dsql_laws.specs.driver.declared.call.DriverCall.{DriverCall}
use Rattle.dsql_laws.specs.driver.Kinds.{is_connect, is_shut}
use Rattle.dsql_laws.specs.scan.declared.cell.Cell.{Cell}
use Rattle.dsql_laws.specs.scan.declared.dest.Dest.{Dest}
use Rattle.dsql_laws.specs.scan.declared.fault.ScanFault.TheVariants.{Memory}
use Rattle.dsql_laws.specs.scan.declared.fault.RowFault.TheVariants.{DestCount}
use Rattle.dsql_laws.specs.scan.Table.{Scan, scan_of}
use Rattle.dsql_laws.specs.scan.Rows.{RowScan, row_of, cells_of, with_cell, answers_of, in_32_bits}
use Rattle.dsql_laws.proofs.scan.TableLaws.{memory_is_no_answer}
use Rattle.dsql_laws.specs.journal.declared.entry.Entry.{Entry}
use Rattle.dsql_laws.specs.journal.Kinds.{is_house, number_of}
use Rattle.dsql_laws.specs.pool.declared.conn.Place.{Place}
use Rattle.dsql_laws.specs.pool.declared.conn.Place.TheVariants.{Idle, Lent, Opening, Closing}
use Rattle.dsql_laws.specs.pool.Pooled.{next_tenure}
use Rattle.dsql_laws.proofs.Tests.{both}
use Rattle.dsql_laws.specs.history.declared.work.Work.{Work}
use Rattle.dsql_laws.specs.history.declared.work.Work.TheVariants.{Look}
use Rattle.dsql_laws.specs.history.declared.event.Event.{Event}
use Rattle.dsql_laws.specs.history.declared.event.Event.TheVariants.{Heard}
use Rattle.dsql_laws.specs.history.Readers.Unfinished.{is_unfinished}
use Rattle.dsql_laws.specs.history.Readers.Works.{work}
use Rattle.dsql_laws.specs.history.Readers.Pool.{pool, place}
use Rattle.dsql_laws.specs.history.Readers.Decisions.{told_row}
use Rattle.dsql_laws.specs.history.Rules.Moves.{hears_in}
use Rattle.dsql_laws.specs.history.Rules.Line.{is_due, due_in, due_for, due_from, tidying, is_at, has_turn, is_due_at, parts, may_come, sends_from}
use Rattle.dsql_laws.specs.history.Legal.{Allowed}
use Rattle.dsql_laws_calls.proofs.Works.{is_look, work_stays}

-- A call that looks at what is there sends nothing.

sends_no_look : (H : List Event) (m : ℕ) (w : Work) (call : DriverCall) → is_due (due_in H m w) call ≡ true → is_look w ≡ false
sends_no_look H m Look call h = absurd cc
sends_no_look H m w call h = refl

due_no_look : (H : List Event) (m : ℕ) (call : DriverCall) → is_due (due_for H m) call ≡ true → is_look (work H m) ≡ false
due_no_look H m call h = by (is_unfinished H m) h
  where
    by : (b : Bool) → is_due (cond b (due_in H m (work H m)) None) call ≡ true → is_look (work H m) ≡ false
    by true k = sends_no_look H m (work H m) call k
    by false k = absurd cc

-- If an entry is due at a place and isn't the layer's, its driver call is due for its call.
pub due_there : (H : List Event) (at : Option Place) (e : Entry) → is_due_at H at e ≡ true → (e.call_no == 0) ≡ false → is_due (due_for H e.call_no) e.call ≡ true
due_there H (Some (Lent t o)) e h some =
    let a = both (e.tenure == t) (is_at H e.call_no e.conn && (has_turn H e.conn e.call_no && is_due (due_from H e.call_no (number_of o)) e.call)) h in
    let b = both (is_at H e.call_no e.conn) (has_turn H e.conn e.call_no && is_due (due_from H e.call_no (number_of o)) e.call) a.1 in
    let c = both (has_turn H e.conn e.call_no) (is_due (due_from H e.call_no (number_of o)) e.call) b.1 in
    subst (λ b. is_due (cond b (tidying H (number_of o)) (due_for H e.call_no)) e.call ≡ true) some c.1
due_there H _ e h some = absurd cc

pub sent_no_look : (H : List Event) (e : Entry) → may_come H e ≡ true → (e.call_no == 0) ≡ false → is_look (work H e.call_no) ≡ false
sent_no_look [] e h some = absurd cc
sent_no_look (last ∷ H) e h some = by (λ may. sent_no_look H e may some) (or_cases (is_due_at (last ∷ H) (place (last ∷ H) e.conn) e) (not (parts last e) && may_come H e) h)
  where
    by : (may_come H e ≡ true → is_look (work H e.call_no) ≡ false) → (is_due_at (last ∷ H) (place (last ∷ H) e.conn) e ≡ true) ⊎ ((not (parts last e) && may_come H e) ≡ true)
        → is_look (work (last ∷ H) e.call_no) ≡ false
    by earlier (inl now) = due_no_look (last ∷ H) e.call_no e.call (due_there (last ∷ H) (place (last ∷ H) e.conn) e now some)
    by earlier (inr could) =
        let b = both (not (parts last e)) (may_come H e) could in
        let before = earlier b.1 in
        ap is_look (work_stays H last e.call_no before) ∙ before

pub record HeardThere (H : List Event) (e : Entry) : Type 0 where
  pub sets : hears_in (pool H) (place H e.conn) e ≡ true
  pub line : sends_from H (place H e.conn) e ≡ true

pub heard_there : (H : List Event) (e : Entry) → Allowed H (Heard e) → HeardThere H e
unfolding Allowed
heard_there H e a = record { sets = a.sets; line = a.line }

-- An answer that is heard for a call may come.
pub comes : (H : List Event) (e : Entry) (at : Option Place) → hears_in (pool H) at e ≡ true → sends_from H at e ≡ true → (e.call_no == 0) ≡ false → may_come H e ≡ true
comes H e (Some (Lent t o)) sets line some = line
comes H e (Some (Opening w)) sets line some =
    let a = both (is_connect e.call) ((e.tenure == 1) && (is_house e.owner && (e.call_no == 0))) sets in
    let b = both (e.tenure == 1) (is_house e.owner && (e.call_no == 0)) a.1 in
    let c = both (is_house e.owner) (e.call_no == 0) b.1 in
    let clash : true ≡ false = sym c.1 ∙ some in absurd cc
comes H e (Some Closing) sets line some =
    let a = both (is_shut e.call) ((e.tenure == next_tenure (pool H) e.conn) && (is_house e.owner && (e.call_no == 0))) sets in
    let b = both (e.tenure == next_tenure (pool H) e.conn) (is_house e.owner && (e.call_no == 0)) a.1 in
    let c = both (is_house e.owner) (e.call_no == 0) b.1 in
    let clash : true ≡ false = sym c.1 ∙ some in absurd cc
comes H e (Some Idle) sets line some = absurd cc
comes H e None sets line some = absurd cc

-- The reply of a row that was scanned.

with_told : (cell : Cell) (row : RowScan) → is_some (told_row row) ≡ true → is_some (told_row (with_cell cell row)) ≡ true
with_told cell (Ok cells) h = refl
with_told cell (Err fault) h = h

told_scan : (i : ℕ) (scan : Scan) (later : List Scan) → (scan ≡ Err Memory → ⊥) → is_some (told_row (cells_of (i + 1) later)) ≡ true → is_some (told_row (cells_of i (scan ∷ later))) ≡ true
told_scan i (Ok cell) later never told = with_told cell (cells_of (i + 1) later) told
told_scan i (Err Memory) later never told = absurd (never refl)
told_scan i (Err fault) later never told = refl

told_all : (i : ℕ) (values : List Value) (dests : List Dest) → is_some (told_row (cells_of i (answers_of values dests))) ≡ true
told_all i [] dests = refl
told_all i (value ∷ values) [] = refl
told_all i (value ∷ values) (dest ∷ dests) =
    told_scan i (scan_of value dest) (answers_of values dests) (memory_is_no_answer value dest) (told_all (i + 1) values dests)

pub told_any : (values : List Value) (dests : List Dest) → is_some (told_row (row_of values dests)) ≡ true
told_any values dests = by_count (length values == length dests)
  where
    by_count : (b : Bool)
        → is_some (told_row (if b then cells_of 0 (answers_of values dests) else Err (DestCount (in_32_bits (length values)) (in_32_bits (length dests))))) ≡ true
    by_count true = told_all 0 values dests
    by_count false = refl
