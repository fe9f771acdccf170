-- Proves that what is known of a tenure stays known after the next driver call of a call on the database and
-- its answer. The argument goes through the driver calls, and for each through the steps at which it may come.
use Rattle.std.proofs.Common.{◌≡◌, ℕ, ◌≤◌, Bool, true, false, not, ◌==◌, ◌&&◌, ◌||◌, List, [], ◌∷◌, Option, None, Some, refl, nat_le, length}
use Rattle.std.specs.Prelude.{ℤ}
use Rattle.std.specs.List.{list_all, list_any, filter}
use native.Mathlib.Omega.{arith}
use Rattle.dsql_history_work.specs.driver.declared.call.DriverCall.{DriverCall}
use Rattle.dsql_history_work.specs.driver.declared.call.DriverCall.TheVariants.{Reset, Valid, Ping, Prepare, Exec, Query, Next, CloseRows, CloseStmt}
use Rattle.dsql_history_work.specs.driver.declared.call.Input.TheVariants.{Text, Handle}
use Rattle.dsql_history_work.specs.driver.declared.answer.DriverAnswer.{DriverAnswer}
use Rattle.dsql_history_work.specs.driver.declared.answer.DriverAnswer.TheVariants.{Prepared, Cursor, Skip, Bad}
use Rattle.dsql_history_work.specs.driver.Fits.{is_skip}
use Rattle.dsql_history_work.specs.value.declared.value.Param.{Param}
use Rattle.dsql_history_work.specs.journal.declared.entry.Entry.{Entry}
use Rattle.dsql_history_work.specs.journal.Kinds.{◌⇒◌, is_number}
use Rattle.dsql_history_work.specs.driver.Kinds.{is_ping, is_prepare, is_valid, ends_cursor, runs_text, given_handle, given_cursor}
use Rattle.dsql_history_work.specs.journal.Readers.{LiveHandle, LiveCursor, handles, handles_after, cursors, cursors_after}
use Rattle.dsql_history_work.specs.journal.Tenure.{is_body, place}
use Rattle.dsql_history_work.proofs.journal.Conjunctions.{parts2, join2}
use Rattle.dsql_laws_work.proofs.CallLines.{Step, Start, WasReset, WasSkipped, WasPrepared, HasRows, HasRead, WasRun, WasDone, WasTested, WasDropped, read_after, left_of, freed_after, step_after, goes, is_sent, level, is_before_end, is_new, is_going, is_at_work, own_cursor, LiveOwn, Live, Open, gave, opened, GaveOwn, Given, SoFar, sent_entry, raised}
use Rattle.dsql_laws_work.proofs.Rows.{is_itself, same_number}

or_none : (a b : Bool) → a ≡ false → b ≡ false → a || b ≡ false
or_none a b h k = grind (arith, h, k)

-- After an entry that keeps all this, the tenure is known at its next step.
so_far-more : (c t n m : ℕ) (s u : Step) (q : DriverCall) (a : DriverAnswer) (L : List Entry) → SoFar t n s L → level s ≤ level u → nat_le (place q) (level u) ≡ true
    → (is_at_work u ≡ true → (is_at_work s ≡ true) × (is_ping q ≡ false)) → is_going s ≡ true → (is_going u ≡ true → is_valid q ≡ false)
    → (is_before_end u ≡ true → (is_before_end s ≡ true) × ((runs_text q ⇒ is_skip a) ≡ true))
    → Given u (sent_entry c t n m q a ∷ L) → Live t n u (handles (sent_entry c t n m q a ∷ L)) → Open t u (cursors (sent_entry c t n m q a ∷ L))
    → (is_new u ≡ true → (u ≡ Start → ⊥) × (filter is_body (sent_entry c t n m q a ∷ L) ≡ [])) → SoFar t n u (sent_entry c t n m q a ∷ L)
so_far-more c t n m s u q a L so rises here no_ping going no_valid no_run given live rows new = record {
  leveled = join2 (nat_le (place q) (level u)) (list_all (λ x. nat_le (place x.call) (level u)) L) here (raised (level s) (level u) L rises so.leveled);
  unpinged = λ h. let both = no_ping h in or_none (is_ping q) (list_any (λ x. is_ping x.call) L) both.1 (so.unpinged both.0);
  untested = λ h. or_none (is_valid q) (list_any (λ x. is_valid x.call) L) (no_valid h) (so.untested going);
  skipped = λ h. let both = no_run h in join2 (runs_text q ⇒ is_skip a) (list_all (λ x. runs_text x.call ⇒ is_skip x.answer) L) both.1 (so.skipped both.0);
  given = given;
  live = live;
  open_rows = rows;
  first = λ h. let both = new (rw h refl) in absurd (both.0 h);
  no_body = λ h. let both = new h in both.1;
}

going_at_work : (s : Step) → is_at_work s ≡ true → is_going s ≡ true
going_at_work WasDone h = refl
going_at_work s h = h

-- After an entry of its work that keeps all this, the tenure is known at its next step.
so_far-with : (c t n m : ℕ) (s u : Step) (q : DriverCall) (a : DriverAnswer) (L : List Entry) → SoFar t n s L → level s ≤ level u → nat_le (place q) (level u) ≡ true
    → is_ping q ≡ false → is_at_work s ≡ true → (is_going u ≡ true → is_valid q ≡ false)
    → (is_before_end u ≡ true → (is_before_end s ≡ true) × ((runs_text q ⇒ is_skip a) ≡ true))
    → Given u (sent_entry c t n m q a ∷ L) → Live t n u (handles (sent_entry c t n m q a ∷ L)) → Open t u (cursors (sent_entry c t n m q a ∷ L)) → (is_new u ≡ true → ⊥)
    → SoFar t n u (sent_entry c t n m q a ∷ L)
so_far-with c t n m s u q a L so rises here no_ping working no_valid no_run given live rows not_new =
    so_far-more c t n m s u q a L so rises here (λ h. (working, no_ping)) (going_at_work s working) no_valid no_run given live rows (λ h. absurd (not_new h))

-- Before its place in the order, a tenure has no Prepare.
none_prepared : (handle : ℕ) (L : List Entry) → list_all (λ x. nat_le (place x.call) 1) L ≡ true → list_all (λ x. is_prepare x.call ⇒ is_number (given_handle x.answer) handle) L ≡ true
none_prepared handle [] h = refl
none_prepared handle (x ∷ L) h =
    let low = parts2 (nat_le (place x.call) 1) (list_all (λ y. nat_le (place y.call) 1) L) h in
    join2 (is_prepare x.call ⇒ is_number (given_handle x.answer) handle) (list_all (λ y. is_prepare y.call ⇒ is_number (given_handle y.answer) handle) L)
    (by_call x.call low.0) (none_prepared handle L low.1)
  where
    by_call : (q : DriverCall) → nat_le (place q) 1 ≡ true → (is_prepare q ⇒ is_number (given_handle x.answer) handle) ≡ true
    by_call (Prepare text) k = absurd cc
    by_call _ k = refl

-- What such a call may send lies within the order of a call's work.
going_when : (s : Step) (q : DriverCall) → goes s q ≡ true → (is_going s ≡ true) × (nat_le (place q) 6 ≡ true) × (level s ≤ 6)
going_when Start Reset h = (refl, refl, omega arith)
going_when Start Ping h = (refl, refl, omega arith)
going_when Start Valid h = (refl, refl, omega arith)
going_when Start (Exec (Text text) params) h = (refl, refl, omega arith)
going_when Start (Query (Text text) params) h = (refl, refl, omega arith)
going_when Start (Prepare text) h = (refl, refl, omega arith)
going_when WasReset Ping h = (refl, refl, omega arith)
going_when WasReset Valid h = (refl, refl, omega arith)
going_when WasReset (Exec (Text text) params) h = (refl, refl, omega arith)
going_when WasReset (Query (Text text) params) h = (refl, refl, omega arith)
going_when WasReset (Prepare text) h = (refl, refl, omega arith)
going_when WasSkipped (Prepare text) h = (refl, refl, omega arith)
going_when (WasPrepared handle) (Exec (Handle other) params) h = (refl, refl, omega arith)
going_when (WasPrepared handle) (Query (Handle other) params) h = (refl, refl, omega arith)
going_when (WasPrepared handle) (CloseStmt other) h = (refl, refl, omega arith)
going_when (HasRows own rows) (Next other) h = (refl, refl, omega arith)
going_when (HasRows own rows) (CloseRows other) h = (refl, refl, omega arith)
going_when (HasRead own rows false) (Next other) h = (refl, refl, omega arith)
going_when (HasRead own rows over) (CloseRows other) h = (refl, refl, omega arith)
going_when (WasRun handle) (CloseStmt other) h = (refl, refl, omega arith)
going_when WasDone Valid h = (refl, refl, omega arith)
going_when _ _ h = absurd cc

-- After a Bad the tenure is dropped, and sends nothing more.
dropped : (c t n m : ℕ) (s : Step) (q : DriverCall) (a : DriverAnswer) (L : List Entry) → SoFar t n s L → goes s q ≡ true → SoFar t n WasDropped (sent_entry c t n m q a ∷ L)
dropped c t n m s q a L so g =
    let k = going_when s q g in
    so_far-more c t n m s WasDropped q a L so k.2 k.1 (λ h. absurd cc) k.0 (λ h. absurd cc) (λ h. absurd cc) tt tt tt (λ h. absurd cc)

-- What is known as a text is run, which comes first or after the Reset.
record Early (t n : ℕ) (s : Step) (L : List Entry) : Type 0 where
  going : is_at_work s ≡ true
  before : is_before_end s ≡ true
  low : level s ≤ 0
  live : handles L ≡ []
  open_rows : cursors L ≡ []

early : (t n : ℕ) (s : Step) (q : DriverCall) (L : List Entry) → SoFar t n s L → runs_text q ≡ true → goes s q ≡ true → Early t n s L
early t n Start q L so run g = record { going = refl; before = refl; low = omega arith; live = so.live; open_rows = so.open_rows }
early t n WasReset q L so run g = record { going = refl; before = refl; low = omega arith; live = so.live; open_rows = so.open_rows }
early t n s (Exec (Text text) params) L so run g = absurd cc
early t n s (Query (Text text) params) L so run g = absurd cc
early t n s q L so run g = absurd cc

-- An Exec leaves handles and cursors as they are, whatever its answer.
text_done : (c t n m : ℕ) (s : Step) (text : List ℕ) (params : List Param) (a : DriverAnswer) (L : List Entry) → SoFar t n s L → goes s (Exec (Text text) params) ≡ true
    → SoFar t n WasDone (sent_entry c t n m (Exec (Text text) params) a ∷ L)
text_done c t n m s text params a L so g =
    let k = early t n s (Exec (Text text) params) L so refl g in
    so_far-with c t n m s WasDone (Exec (Text text) params) a L so (omega (arith, k.low)) refl refl k.going (λ h. refl) (λ h. absurd cc) tt k.live k.open_rows (λ h. absurd cc)

text_skipped : (c t n m : ℕ) (s : Step) (text : List ℕ) (params : List Param) (L : List Entry) → SoFar t n s L → goes s (Exec (Text text) params) ≡ true
    → SoFar t n WasSkipped (sent_entry c t n m (Exec (Text text) params) Skip ∷ L)
text_skipped c t n m s text params L so g =
    let k = early t n s (Exec (Text text) params) L so refl g in
    so_far-with c t n m s WasSkipped (Exec (Text text) params) Skip L so (omega (arith, k.low)) refl refl k.going (λ h. refl) (λ h. (k.before, refl)) tt k.live k.open_rows (λ h. absurd cc)

query_skipped : (c t n m : ℕ) (s : Step) (text : List ℕ) (params : List Param) (L : List Entry) → SoFar t n s L → goes s (Query (Text text) params) ≡ true
    → SoFar t n WasSkipped (sent_entry c t n m (Query (Text text) params) Skip ∷ L)
query_skipped c t n m s text params L so g =
    let k = early t n s (Query (Text text) params) L so refl g in
    so_far-with c t n m s WasSkipped (Query (Text text) params) Skip L so (omega (arith, k.low)) refl refl k.going (λ h. refl) (λ h. (k.before, refl)) tt k.live k.open_rows (λ h. absurd cc)

query_opens : (c t n m : ℕ) (s : Step) (text : List ℕ) (params : List Param) (rows : ℕ) (columns : List (List ℕ)) (L : List Entry) → SoFar t n s L
    → goes s (Query (Text text) params) ≡ true → SoFar t n (HasRows None rows) (sent_entry c t n m (Query (Text text) params) (Cursor rows columns) ∷ L)
query_opens c t n m s text params rows columns L so g =
    let k = early t n s (Query (Text text) params) L so refl g in
    so_far-with c t n m s (HasRows None rows) (Query (Text text) params) (Cursor rows columns) L so (omega (arith, k.low)) refl refl k.going (λ h. refl) (λ h. absurd cc)
    (tt, rw (is_itself rows) refl) k.live (record { columns = length columns; is = rw k.open_rows refl }) (λ h. absurd cc)

-- An answer that gives no cursor leaves no cursor live if none was.
unopened : (e : Entry) (q : DriverCall) (b : DriverAnswer) (live : List LiveCursor) → given_cursor b ≡ None → live ≡ [] → place q ≡ 1 → cursors_after e q b live ≡ []
unopened e (Query input params) (Cursor rows columns) live k is p = absurd cc
unopened e (Query input params) b live k is p = is
unopened e (Exec input params) b live k is p = is
unopened e q b live k is p = absurd cc

query_done : (c t n m : ℕ) (s : Step) (text : List ℕ) (params : List Param) (a : DriverAnswer) (L : List Entry) → SoFar t n s L → goes s (Query (Text text) params) ≡ true
    → given_cursor a ≡ None → SoFar t n WasDone (sent_entry c t n m (Query (Text text) params) a ∷ L)
query_done c t n m s text params a L so g none =
    let k = early t n s (Query (Text text) params) L so refl g in
    so_far-with c t n m s WasDone (Query (Text text) params) a L so (omega (arith, k.low)) refl refl k.going (λ h. refl) (λ h. absurd cc) tt k.live
    (unopened (sent_entry c t n m (Query (Text text) params) a) (Query (Text text) params) a (cursors L) none k.open_rows refl) (λ h. absurd cc)

-- What is known as a text is prepared, which comes first, after the Reset, or after a skip.
record Unprepared (t n : ℕ) (s : Step) (L : List Entry) : Type 0 where
  going : is_at_work s ≡ true
  before : is_before_end s ≡ true
  low : level s ≤ 1
  live : handles L ≡ []
  open_rows : cursors L ≡ []

unprepared : (t n : ℕ) (s : Step) (text : List ℕ) (L : List Entry) → SoFar t n s L → goes s (Prepare text) ≡ true → Unprepared t n s L
unprepared t n Start text L so g = record { going = refl; before = refl; low = omega arith; live = so.live; open_rows = so.open_rows }
unprepared t n WasReset text L so g = record { going = refl; before = refl; low = omega arith; live = so.live; open_rows = so.open_rows }
unprepared t n WasSkipped text L so g = record { going = refl; before = refl; low = omega arith; live = so.live; open_rows = so.open_rows }
unprepared t n _ text L so g = absurd cc

one_prepared : (c t n m handle : ℕ) (text : List ℕ) (inputs : ℤ) (L : List Entry) → list_all (λ x. nat_le (place x.call) 1) L ≡ true
    → gave handle (sent_entry c t n m (Prepare text) (Prepared handle inputs) ∷ L) ≡ true
one_prepared c t n m handle text inputs L low = rw (is_itself handle) (rw (none_prepared handle L low) refl)

gives : (c t n m : ℕ) (s : Step) (text : List ℕ) (handle : ℕ) (inputs : ℤ) (L : List Entry) → SoFar t n s L → goes s (Prepare text) ≡ true
    → SoFar t n (WasPrepared handle) (sent_entry c t n m (Prepare text) (Prepared handle inputs) ∷ L)
gives c t n m s text handle inputs L so g =
    let k = unprepared t n s text L so g in
    so_far-with c t n m s (WasPrepared handle) (Prepare text) (Prepared handle inputs) L so (omega (arith, k.low)) refl refl k.going (λ h. refl) (λ h. (k.before, refl))
    (one_prepared c t n m handle text inputs L (raised (level s) 1 L k.low so.leveled)) (record { inputs = inputs; is = rw k.live refl }) k.open_rows (λ h. absurd cc)

-- A Prepare that gives no handle leaves no handle live if none was.
unheld : (e : Entry) (text : List ℕ) (b : DriverAnswer) (live : List LiveHandle) → given_handle b ≡ None → live ≡ [] → handles_after e (Prepare text) b live ≡ []
unheld e text (Prepared handle inputs) live k is = absurd cc
unheld e text _ live k is = is

ungiven : (c t n m : ℕ) (s : Step) (text : List ℕ) (a : DriverAnswer) (L : List Entry) → SoFar t n s L → goes s (Prepare text) ≡ true → given_handle a ≡ None
    → SoFar t n WasDone (sent_entry c t n m (Prepare text) a ∷ L)
ungiven c t n m s text a L so g none =
    let k = unprepared t n s text L so g in
    so_far-with c t n m s WasDone (Prepare text) a L so (omega (arith, k.low)) refl refl k.going (λ h. refl) (λ h. absurd cc) tt
    (unheld (sent_entry c t n m (Prepare text) a) text a (handles L) none k.live) k.open_rows (λ h. absurd cc)

or_later : (all any here : Bool) → all && any ≡ true → all && (here || any) ≡ true
or_later all any here h = grind (arith, h)

-- A driver call other than a Prepare leaves the handle that the tenure was given.
gave_on : (c t n m : ℕ) (q : DriverCall) (a : DriverAnswer) (k : ℕ) (L : List Entry) → is_prepare q ≡ false → gave k L ≡ true → gave k (sent_entry c t n m q a ∷ L) ≡ true
gave_on c t n m q a k L not h =
    rw not (or_later (list_all (λ x. is_prepare x.call ⇒ is_number (given_handle x.answer) k) L) (list_any (λ x. is_number (given_handle x.answer) k) L) (is_number (given_handle a) k) h)

run_handle : (c t n m handle : ℕ) (s : Step) (params : List Param) (a : DriverAnswer) (L : List Entry) → SoFar t n s L → goes s (Exec (Handle handle) params) ≡ true
    → SoFar t n (WasRun handle) (sent_entry c t n m (Exec (Handle handle) params) a ∷ L)
run_handle c t n m handle (WasPrepared given) params a L so g =
    let is : given ≡ handle = same_number given handle g in
    let had : SoFar t n (WasPrepared handle) L = rw is at so in
    so_far-with c t n m (WasPrepared handle) (WasRun handle) (Exec (Handle handle) params) a L had (omega arith) refl refl refl (λ h. refl) (λ h. absurd cc)
    (gave_on c t n m (Exec (Handle handle) params) a handle L refl had.given) had.live had.open_rows (λ h. absurd cc)
run_handle c t n m handle _ params a L so g = absurd cc

-- After a Query of the handle that gave no cursor, only the handle is left to close.
query_run : (c t n m handle : ℕ) (s : Step) (params : List Param) (a : DriverAnswer) (L : List Entry) → SoFar t n s L → goes s (Query (Handle handle) params) ≡ true
    → given_cursor a ≡ None → SoFar t n (WasRun handle) (sent_entry c t n m (Query (Handle handle) params) a ∷ L)
query_run c t n m handle (WasPrepared given) params a L so g none =
    let is : given ≡ handle = same_number given handle g in
    let had : SoFar t n (WasPrepared handle) L = rw is at so in
    so_far-with c t n m (WasPrepared handle) (WasRun handle) (Query (Handle handle) params) a L had (omega arith) refl refl refl (λ h. refl) (λ h. absurd cc)
    (gave_on c t n m (Query (Handle handle) params) a handle L refl had.given) had.live (unread a (cursors L) none had.open_rows) (λ h. absurd cc)
  where
    unread : (b : DriverAnswer) (live : List LiveCursor) → given_cursor b ≡ None → live ≡ []
        → cursors_after (sent_entry c t n m (Query (Handle handle) params) a) (Query (Handle handle) params) b live ≡ []
    unread (Cursor rows columns) live k is = absurd cc
    unread _ live k is = is
query_run c t n m handle _ params a L so g none = absurd cc

handle_opens : (c t n m handle : ℕ) (s : Step) (params : List Param) (rows : ℕ) (columns : List (List ℕ)) (L : List Entry) → SoFar t n s L
    → goes s (Query (Handle handle) params) ≡ true → SoFar t n (HasRows (Some handle) rows) (sent_entry c t n m (Query (Handle handle) params) (Cursor rows columns) ∷ L)
handle_opens c t n m handle (WasPrepared given) params rows columns L so g =
    let is : given ≡ handle = same_number given handle g in
    let had : SoFar t n (WasPrepared handle) L = rw is at so in
    so_far-with c t n m (WasPrepared handle) (HasRows (Some handle) rows) (Query (Handle handle) params) (Cursor rows columns) L had (omega arith) refl refl refl (λ h. refl) (λ h. absurd cc)
    (gave_on c t n m (Query (Handle handle) params) (Cursor rows columns) handle L refl had.given, rw (is_itself rows) refl) had.live
    (record { columns = length columns; is = rw had.open_rows refl }) (λ h. absurd cc)
handle_opens c t n m handle _ params rows columns L so g = absurd cc

-- A driver call other than a Prepare leaves the handle that the tenure was given, or that it was given none.
gave_own : (c t n m : ℕ) (q : DriverCall) (a : DriverAnswer) (own : Option ℕ) (L : List Entry) → is_prepare q ≡ false → GaveOwn own L → GaveOwn own (sent_entry c t n m q a ∷ L)
gave_own c t n m q a None L not h = tt
gave_own c t n m q a (Some handle) L not h = gave_on c t n m q a handle L not h

opened_on : (here later : Bool) → later ≡ true → here || later ≡ true
opened_on here later h = grind (arith, h)

reads : (c t n m rows : ℕ) (s : Step) (a : DriverAnswer) (L : List Entry) → SoFar t n s L → goes s (Next rows) ≡ true
    → SoFar t n (read_after s (ends_cursor a)) (sent_entry c t n m (Next rows) a ∷ L)
reads c t n m rows (HasRows own given) a L so g =
    so_far-with c t n m (HasRows own given) (HasRead own given (ends_cursor a)) (Next rows) a L so (omega arith) refl refl refl (λ h. refl) (λ h. absurd cc)
    (gave_own c t n m (Next rows) a own L refl so.given.0, opened_on (is_number (given_cursor a) given) (opened given L) so.given.1) so.live
    (record { columns = so.open_rows.columns; is = rw (so.open_rows.is, g) refl }) (λ h. absurd cc)
reads c t n m rows (HasRead own given false) a L so g =
    so_far-with c t n m (HasRead own given false) (HasRead own given (ends_cursor a)) (Next rows) a L so (omega arith) refl refl refl (λ h. refl) (λ h. absurd cc)
    (gave_own c t n m (Next rows) a own L refl so.given.0, opened_on (is_number (given_cursor a) given) (opened given L) so.given.1) so.live
    (record { columns = so.open_rows.columns; is = rw (so.open_rows.is, g) refl }) (λ h. absurd cc)
reads c t n m rows _ a L so g = absurd cc

-- What is known of a cursor that the call closes, whether it fetched from it or not.
record Closes (t n given rows : ℕ) (s : Step) (own : Option ℕ) (L : List Entry) : Type 0 where
  columns : ℕ
  over : Bool
  is : cursors L ≡ own_cursor t given columns over ∷ []
  same_rows : (given == rows) ≡ true
  low : level s ≤ 4
  going : is_at_work s ≡ true
  gave : GaveOwn own L
  live : LiveOwn t n own (handles L)

close_rows : (c t n m given rows : ℕ) (s : Step) (own : Option ℕ) (a : DriverAnswer) (L : List Entry) → SoFar t n s L → Closes t n given rows s own L
    → SoFar t n (left_of own) (sent_entry c t n m (CloseRows rows) a ∷ L)
close_rows c t n m given rows s None a L so k =
    so_far-with c t n m s WasDone (CloseRows rows) a L so (omega (arith, k.low)) refl refl k.going (λ h. refl) (λ h. absurd cc) tt k.live
    (rw (k.is, k.same_rows) refl) (λ h. absurd cc)
close_rows c t n m given rows s (Some handle) a L so k =
    so_far-with c t n m s (WasRun handle) (CloseRows rows) a L so (omega (arith, k.low)) refl refl k.going (λ h. refl) (λ h. absurd cc)
    (gave_on c t n m (CloseRows rows) a handle L refl k.gave) k.live (rw (k.is, k.same_rows) refl) (λ h. absurd cc)

frees : (c t n m rows : ℕ) (s : Step) (a : DriverAnswer) (L : List Entry) → SoFar t n s L → goes s (CloseRows rows) ≡ true
    → SoFar t n (freed_after s) (sent_entry c t n m (CloseRows rows) a ∷ L)
frees c t n m rows (HasRows own given) a L so g =
    close_rows c t n m given rows (HasRows own given) own a L so (record {
      columns = so.open_rows.columns;
      over = false;
      is = so.open_rows.is;
      same_rows = g;
      low = omega arith;
      going = refl;
      gave = so.given.0;
      live = so.live;
    })
frees c t n m rows (HasRead own given over) a L so g =
    close_rows c t n m given rows (HasRead own given over) own a L so (record {
      columns = so.open_rows.columns;
      over = over;
      is = so.open_rows.is;
      same_rows = g;
      low = omega arith;
      going = refl;
      gave = so.given.0;
      live = so.live;
    })
frees c t n m rows _ a L so g = absurd cc

close_handle : (c t n m handle : ℕ) (s : Step) (a : DriverAnswer) (L : List Entry) → SoFar t n s L → goes s (CloseStmt handle) ≡ true
    → SoFar t n WasDone (sent_entry c t n m (CloseStmt handle) a ∷ L)
close_handle c t n m handle (WasPrepared given) a L so g =
    let is : given ≡ handle = same_number given handle g in
    let had : SoFar t n (WasPrepared handle) L = rw is at so in
    so_far-with c t n m (WasPrepared handle) WasDone (CloseStmt handle) a L had (omega arith) refl refl refl (λ h. refl) (λ h. absurd cc) tt
    (rw had.live.is (rw (is_itself handle) refl)) had.open_rows (λ h. absurd cc)
close_handle c t n m handle (WasRun given) a L so g =
    let is : given ≡ handle = same_number given handle g in
    let had : SoFar t n (WasRun handle) L = rw is at so in
    so_far-with c t n m (WasRun handle) WasDone (CloseStmt handle) a L had (omega arith) refl refl refl (λ h. refl) (λ h. absurd cc) tt
    (rw had.live.is (rw (is_itself handle) refl)) had.open_rows (λ h. absurd cc)
close_handle c t n m handle _ a L so g = absurd cc

reset_heard : (c t n m : ℕ) (s : Step) (a : DriverAnswer) (L : List Entry) → SoFar t n s L → goes s Reset ≡ true → SoFar t n WasReset (sent_entry c t n m Reset a ∷ L)
reset_heard c t n m Start a L so g =
    so_far-more c t n m Start WasReset Reset a L so (omega arith) refl (λ h. (refl, refl)) refl (λ h. refl) (λ h. (refl, refl)) tt so.live so.open_rows (λ h. (λ k. absurd cc, so.no_body refl))
reset_heard c t n m _ a L so g = absurd cc

tested : (c t n m : ℕ) (s : Step) (a : DriverAnswer) (L : List Entry) → SoFar t n s L → goes s Valid ≡ true → SoFar t n WasTested (sent_entry c t n m Valid a ∷ L)
tested c t n m Start a L so g =
    so_far-more c t n m Start WasTested Valid a L so (omega arith) refl (λ h. absurd cc) refl (λ h. absurd cc) (λ h. absurd cc) tt so.live so.open_rows (λ h. absurd cc)
tested c t n m WasReset a L so g =
    so_far-more c t n m WasReset WasTested Valid a L so (omega arith) refl (λ h. absurd cc) refl (λ h. absurd cc) (λ h. absurd cc) tt so.live so.open_rows (λ h. absurd cc)
tested c t n m WasDone a L so g =
    so_far-more c t n m WasDone WasTested Valid a L so (omega arith) refl (λ h. absurd cc) refl (λ h. absurd cc) (λ h. absurd cc) tt so.live so.open_rows (λ h. absurd cc)
tested c t n m _ a L so g = absurd cc

pinged : (c t n m : ℕ) (s : Step) (a : DriverAnswer) (L : List Entry) → SoFar t n s L → goes s Ping ≡ true → SoFar t n WasDone (sent_entry c t n m Ping a ∷ L)
pinged c t n m Start a L so g =
    so_far-more c t n m Start WasDone Ping a L so (omega arith) refl (λ h. absurd cc) refl (λ h. refl) (λ h. absurd cc) tt so.live so.open_rows (λ h. absurd cc)
pinged c t n m WasReset a L so g =
    so_far-more c t n m WasReset WasDone Ping a L so (omega arith) refl (λ h. absurd cc) refl (λ h. refl) (λ h. absurd cc) tt so.live so.open_rows (λ h. absurd cc)
pinged c t n m _ a L so g = absurd cc

sent_when : (s : Step) (q : DriverCall) → goes s q ≡ true → is_sent q ≡ true
sent_when Start Reset h = refl
sent_when s Valid h = refl
sent_when s Ping h = refl
sent_when s (Exec input params) h = refl
sent_when s (Query input params) h = refl
sent_when s (Prepare text) h = refl
sent_when s (Next rows) h = refl
sent_when s (CloseRows rows) h = refl
sent_when s (CloseStmt handle) h = refl
sent_when s Reset h = refl
sent_when _ q h = absurd cc

-- If a tenure is known at its step, it is known at the next step after what such a call sends next.
pub so_far-next : (c t n m : ℕ) (s : Step) (q : DriverCall) (a : DriverAnswer) (L : List Entry) → SoFar t n s L → goes s q ≡ true → SoFar t n (step_after s q a) (sent_entry c t n m q a ∷ L)
so_far-next c t n m s q Bad L so g = dropped c t n m s q Bad L so g
so_far-next c t n m s Reset a L so g = reset_heard c t n m s a L so g
so_far-next c t n m s (Exec (Text text) params) Skip L so g = text_skipped c t n m s text params L so g
so_far-next c t n m s (Exec (Text text) params) a L so g = text_done c t n m s text params a L so g
so_far-next c t n m s (Query (Text text) params) Skip L so g = query_skipped c t n m s text params L so g
so_far-next c t n m s (Query (Text text) params) (Cursor rows columns) L so g = query_opens c t n m s text params rows columns L so g
so_far-next c t n m s (Query (Text text) params) a L so g = query_done c t n m s text params a L so g refl
so_far-next c t n m s (Prepare text) (Prepared handle inputs) L so g = gives c t n m s text handle inputs L so g
so_far-next c t n m s (Prepare text) a L so g = ungiven c t n m s text a L so g refl
so_far-next c t n m s (Exec (Handle handle) params) a L so g = run_handle c t n m handle s params a L so g
so_far-next c t n m s (Query (Handle handle) params) (Cursor rows columns) L so g = handle_opens c t n m handle s params rows columns L so g
so_far-next c t n m s (Query (Handle handle) params) a L so g = query_run c t n m handle s params a L so g refl
so_far-next c t n m s (Next rows) a L so g = reads c t n m rows s a L so g
so_far-next c t n m s (CloseRows rows) a L so g = frees c t n m rows s a L so g
so_far-next c t n m s (CloseStmt handle) a L so g = close_handle c t n m handle s a L so g
so_far-next c t n m s Ping a L so g = pinged c t n m s a L so g
so_far-next c t n m s Valid a L so g = tested c t n m s a L so g
so_far-next c t n m s q a L so g = let k = sent_when s q g in absurd cc
