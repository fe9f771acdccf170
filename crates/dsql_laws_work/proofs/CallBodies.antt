-- Proves that what a call on the database sends in the body of its tenure may follow in the connection's
-- journal. Each driver call is beyond all that was sent, or a further Next, and names what the tenure holds
-- live.
use Rattle.std.proofs.Common.{◌≡◌, ℕ, ◌<◌, ◌≤◌, Bool, true, false, ◌&&◌, ◌||◌, List, [], ◌∷◌, refl, nat_le, nat_lt, cond, ◌∙◌}
use Rattle.std.specs.List.{list_all, list_any, filter}
use native.Mathlib.Omega.{arith}
use Rattle.std.proofs.lemmas.Bool.Decides.{nat_tests}
use Rattle.dsql_history_work.specs.value.declared.value.Param.{Param}
use Rattle.dsql_history_work.specs.driver.declared.call.DriverCall.{DriverCall}
use Rattle.dsql_history_work.specs.driver.declared.call.DriverCall.TheVariants.{Ping, Valid, Prepare, Exec, Query, Next, CloseRows, CloseStmt}
use Rattle.dsql_history_work.specs.driver.declared.call.Input.TheVariants.{Text, Handle}
use Rattle.dsql_history_work.specs.driver.declared.answer.DriverAnswer.{DriverAnswer}
use Rattle.dsql_history_work.specs.journal.declared.entry.Entry.{Entry}
use Rattle.dsql_history_work.specs.journal.Kinds.{◌⇒◌, is_number}
use Rattle.dsql_history_work.specs.driver.Kinds.{is_bad, is_connect, is_prepare, runs_text, is_reset, is_valid, is_ping, is_next, given_handle}
use Rattle.dsql_history_work.specs.journal.Readers.{of_tenure, handles, cursors}
use Rattle.dsql_history_work.specs.journal.Tenure.{is_body, place, goes_in_order, has_closed_cursors, closes_own_handle, closes_rows_first, follows_skip, runs_own_handle, uses_own_cursor}
use Rattle.dsql_history_work.specs.journal.HandlesAndCursors.{fits_at_its_place}
use Rattle.dsql_history_work.specs.journal.Journal.{may_follow}
use Rattle.dsql_history_work.specs.journal.Facts.{KeepsHandlesAndCursors}
use Rattle.dsql_history_work.proofs.journal.Conjunctions.{parts2}
use Rattle.dsql_history_work.proofs.journal.PlainJournals.{went_bad-in}
use Rattle.dsql_laws_work.proofs.CallLines.{Step, Start, WasReset, WasSkipped, WasPrepared, HasRows, HasRead, WasRun, WasDone, step, goes, level, raised, is_before_end, is_new, is_at_work, OneHandle, own_cursor, gave, opened, SoFar, sent_entry}
use Rattle.dsql_laws_work.proofs.Rows.{same_number}
use Rattle.dsql_laws_work.proofs.CallSends.{Sends, follows, names_none, names_handle, names_cursor}

-- A driver call whose place is beyond every place in the tenure keeps the order.
stays_in_order : (p q : ℕ) (next : DriverCall → Bool) (L : List Entry) → p < q → list_all (λ x. nat_le (place x.call) p) L ≡ true
    → list_all (λ x. nat_lt (place x.call) q || next x.call) (filter is_body L) ≡ true
stays_in_order p q next [] less all = refl
stays_in_order p q next (x ∷ L) less all = grind (arith, nat_tests, less, all, stays_in_order p q next L less)

-- A Next may follow a Next.
next_behind : (q : DriverCall) → nat_le (place q) 4 ≡ true → nat_lt (place q) 4 || (is_next q && true) ≡ true
next_behind (Next rows) h = refl
next_behind (CloseRows rows) h = absurd cc
next_behind (CloseStmt handle) h = absurd cc
next_behind (Exec (Text text) params) h = refl
next_behind (Exec (Handle handle) params) h = refl
next_behind (Query (Text text) params) h = refl
next_behind (Query (Handle handle) params) h = refl
next_behind _ h = refl

next_in_order : (L : List Entry) → list_all (λ x. nat_le (place x.call) 4) L ≡ true → list_all (λ x. nat_lt (place x.call) 4 || (is_next x.call && true)) (filter is_body L) ≡ true
next_in_order [] all = refl
next_in_order (x ∷ L) all =
    let both = parts2 (nat_le (place x.call) 4) (list_all (λ y. nat_le (place y.call) 4) L) all in
    let here : nat_lt (place x.call) 4 || (is_next x.call && true) ≡ true = next_behind x.call both.0 in
    let rest : list_all (λ y. nat_lt (place y.call) 4 || (is_next y.call && true)) (filter is_body L) ≡ true = next_in_order L both.1 in
    by_body (is_body x) here rest
  where
    by_body : (b : Bool) → nat_lt (place x.call) 4 || (is_next x.call && true) ≡ true
        → list_all (λ y. nat_lt (place y.call) 4 || (is_next y.call && true)) (filter is_body L) ≡ true
        → list_all (λ y. nat_lt (place y.call) 4 || (is_next y.call && true)) (cond b (x ∷ filter is_body L) (filter is_body L)) ≡ true
    by_body true here rest = rw here rest
    by_body false here rest = rest

-- Is true if the driver call belongs to the body of such a call.
abbrev pub works : DriverCall → Bool
works (Exec input params) = true
works (Query input params) = true
works (Prepare text) = true
works (Next rows) = true
works (CloseRows rows) = true
works (CloseStmt handle) = true
works _ = false

-- Holds if a driver call of the body keeps the order, closes only its own handle and uses only its own cursor.
record Own (c t n m : ℕ) (q : DriverCall) (a : DriverAnswer) (J : List Entry) : Type 0 where
  in_order : goes_in_order J (sent_entry c t n m q a) ≡ true
  close : closes_own_handle J (sent_entry c t n m q a) ≡ true
  cursor : uses_own_cursor J (sent_entry c t n m q a) ≡ true
  skip : follows_skip J (sent_entry c t n m q a) ≡ true
  run : runs_own_handle J (sent_entry c t n m q a) ≡ true
  rows_first : closes_rows_first J (sent_entry c t n m q a) ≡ true

work_call : (q : DriverCall) → works q ≡ true → (is_connect q ≡ false) × (is_reset q ≡ false) × (is_valid q ≡ false) × (is_ping q ≡ false) × (nat_lt 0 (place q) ≡ true)
work_call (Exec (Text text) params) h = (refl, refl, refl, refl, refl)
work_call (Exec (Handle handle) params) h = (refl, refl, refl, refl, refl)
work_call (Query (Text text) params) h = (refl, refl, refl, refl, refl)
work_call (Query (Handle handle) params) h = (refl, refl, refl, refl, refl)
work_call (Prepare text) h = (refl, refl, refl, refl, refl)
work_call (Next rows) h = (refl, refl, refl, refl, refl)
work_call (CloseRows rows) h = (refl, refl, refl, refl, refl)
work_call (CloseStmt handle) h = (refl, refl, refl, refl, refl)
work_call _ h = absurd cc

-- A tenure in which a driver call of the body may come is at work on its text, so it didn't ping.
working : (s : Step) (q : DriverCall) → goes s q ≡ true → works q ≡ true → is_at_work s ≡ true
working WasDone Valid h work = absurd cc
working WasDone _ h work = absurd cc
working Start q h work = refl
working WasReset q h work = refl
working WasSkipped q h work = refl
working (WasPrepared handle) q h work = refl
working (HasRows own rows) q h work = refl
working (HasRead own rows over) q h work = refl
working (WasRun handle) q h work = refl
working _ q h work = absurd cc

-- A driver call whose place is beyond all that the tenure has sent keeps the order.
beyond : (c t n m : ℕ) (q : DriverCall) (a : DriverAnswer) (J : List Entry) → Sends c t n q J → level (step (of_tenure t J)) < place q
    → goes_in_order J (sent_entry c t n m q a) ≡ true
beyond c t n m q a J s higher = let so = s.so_far in stays_in_order (level (step (of_tenure t J))) (place q) (λ r. is_next r && is_next q) (of_tenure t J) higher so.leveled

follows-work : (c t n m : ℕ) (q : DriverCall) (a : DriverAnswer) (J : List Entry) → Sends c t n q J → works q ≡ true → Own c t n m q a J
    → KeepsHandlesAndCursors J (sent_entry c t n m q a) → fits_at_its_place J (sent_entry c t n m q a) ≡ true → may_follow J (sent_entry c t n m q a) ≡ true
follows-work c t n m q a J s work own uses fits =
    let k = work_call q work in
    let so = s.so_far in
    follows c t n m q a J s k.0 (rw k.1 refl) (rw k.2 refl)
    (λ _. record {
      kind = rw k.3 k.4;
      ping_alone = rw k.3 (rw (so.unpinged (working (step (of_tenure t J)) q s.next work)) refl);
      order = own.in_order;
      own_cursor = own.cursor;
      own_close = own.close;
      skip = own.skip;
      own_run = own.run;
      not_after_bad = rw (went_bad-in t J s.good.not_bad) refl;
      rows_first = own.rows_first;
      no_transaction = refl;
    }) uses fits

-- A Ping is sent first, or after the Reset.
first_ping : (s : Step) → goes s Ping ≡ true → is_new s ≡ true
first_ping Start h = refl
first_ping WasReset h = refl
first_ping _ h = absurd cc

pub follows-ping : (c t n m : ℕ) (a : DriverAnswer) (J : List Entry) → Sends c t n Ping J → fits_at_its_place J (sent_entry c t n m Ping a) ≡ true
    → may_follow J (sent_entry c t n m Ping a) ≡ true
follows-ping c t n m a J s fits =
    let so = s.so_far in
    let alone : filter is_body (of_tenure t J) ≡ [] = so.no_body (first_ping (step (of_tenure t J)) s.next) in
    follows c t n m Ping a J s refl refl refl
    (λ _. record {
      kind = refl;
      ping_alone = rw alone refl;
      order = rw alone refl;
      own_cursor = refl;
      own_close = refl;
      skip = refl;
      own_run = refl;
      not_after_bad = rw (went_bad-in t J s.good.not_bad) refl;
      rows_first = refl;
      no_transaction = refl;
    }) (names_none c t n m Ping a J refl refl) fits

-- A text is run first, or after the Reset.
low_text : (u : Step) (q : DriverCall) → runs_text q ≡ true → goes u q ≡ true → level u < 1
low_text Start q run h = omega arith
low_text WasReset q run h = omega arith
low_text u (Exec (Text text) params) run h = absurd cc
low_text u (Query (Text text) params) run h = absurd cc
low_text u q run h = absurd cc

pub follows-text : (c t n m : ℕ) (text : List ℕ) (params : List Param) (a : DriverAnswer) (J : List Entry) → Sends c t n (Exec (Text text) params) J
    → fits_at_its_place J (sent_entry c t n m (Exec (Text text) params) a) ≡ true → may_follow J (sent_entry c t n m (Exec (Text text) params) a) ≡ true
follows-text c t n m text params a J s fits =
    follows-work c t n m (Exec (Text text) params) a J s refl
    (record {
      in_order = beyond c t n m (Exec (Text text) params) a J s (low_text (step (of_tenure t J)) (Exec (Text text) params) refl s.next);
      close = refl;
      cursor = refl;
      skip = refl;
      run = refl;
      rows_first = refl;
    }) (names_none c t n m (Exec (Text text) params) a J refl refl) fits

pub follows-query : (c t n m : ℕ) (text : List ℕ) (params : List Param) (a : DriverAnswer) (J : List Entry) → Sends c t n (Query (Text text) params) J
    → fits_at_its_place J (sent_entry c t n m (Query (Text text) params) a) ≡ true → may_follow J (sent_entry c t n m (Query (Text text) params) a) ≡ true
follows-query c t n m text params a J s fits =
    follows-work c t n m (Query (Text text) params) a J s refl
    (record {
      in_order = beyond c t n m (Query (Text text) params) a J s (low_text (step (of_tenure t J)) (Query (Text text) params) refl s.next);
      close = refl;
      cursor = refl;
      skip = refl;
      run = refl;
      rows_first = refl;
    }) (names_none c t n m (Query (Text text) params) a J refl refl) fits

-- A Prepare comes first, after the Reset, or after a text that was skipped.
early_prepare : (text : List ℕ) (u : Step) → goes u (Prepare text) ≡ true → (level u < 2) × (is_before_end u ≡ true)
early_prepare text Start h = (omega arith, refl)
early_prepare text WasReset h = (omega arith, refl)
early_prepare text WasSkipped h = (omega arith, refl)
early_prepare text _ h = absurd cc

pub follows-prepare : (c t n m : ℕ) (text : List ℕ) (a : DriverAnswer) (J : List Entry) → Sends c t n (Prepare text) J
    → fits_at_its_place J (sent_entry c t n m (Prepare text) a) ≡ true → may_follow J (sent_entry c t n m (Prepare text) a) ≡ true
follows-prepare c t n m text a J s fits =
    let so = s.so_far in
    let k = early_prepare text (step (of_tenure t J)) s.next in
    follows-work c t n m (Prepare text) a J s refl
    (record {
      in_order = beyond c t n m (Prepare text) a J s k.0;
      close = refl;
      cursor = refl;
      skip = so.skipped k.1;
      run = refl;
      rows_first = refl;
    }) (names_none c t n m (Prepare text) a J refl refl) fits

-- In a tenure that gave this handle, each Prepare gave it, and one of the answers did.
given_parts : (handle : ℕ) (L : List Entry) → gave handle L ≡ true
    → (list_all (λ x. is_prepare x.call ⇒ is_number (given_handle x.answer) handle) L ≡ true) × (list_any (λ x. is_number (given_handle x.answer) handle) L ≡ true)
given_parts handle L h = parts2 (list_all (λ x. is_prepare x.call ⇒ is_number (given_handle x.answer) handle) L) (list_any (λ x. is_number (given_handle x.answer) handle) L) h

-- What is known of a handle that the call runs.
record Handled (t n handle : ℕ) (u : Step) (L : List Entry) : Type 0 where
  one : OneHandle t n handle (handles L)
  gave : gave handle L ≡ true
  low : level u < 3
  early : is_before_end u ≡ true

prepared_one : (t n handle given : ℕ) (L : List Entry) → SoFar t n (WasPrepared given) L → given ≡ handle → Handled t n handle (WasPrepared given) L
prepared_one t n handle given L so is =
    let had : SoFar t n (WasPrepared handle) L = rw is at so in
    record { one = had.live; gave = had.given; low = omega arith; early = refl }

ran : (t n handle : ℕ) (params : List Param) (u : Step) (L : List Entry) → SoFar t n u L → goes u (Exec (Handle handle) params) ≡ true → Handled t n handle u L
ran t n handle params (WasPrepared given) L so h = prepared_one t n handle given L so (same_number given handle h)
ran t n handle params _ L so h = absurd cc

queried : (t n handle : ℕ) (params : List Param) (u : Step) (L : List Entry) → SoFar t n u L → goes u (Query (Handle handle) params) ≡ true → Handled t n handle u L
queried t n handle params (WasPrepared given) L so h = prepared_one t n handle given L so (same_number given handle h)
queried t n handle params _ L so h = absurd cc

pub follows-run : (c t n m : ℕ) (handle : ℕ) (params : List Param) (a : DriverAnswer) (J : List Entry) → Sends c t n (Exec (Handle handle) params) J
    → fits_at_its_place J (sent_entry c t n m (Exec (Handle handle) params) a) ≡ true → may_follow J (sent_entry c t n m (Exec (Handle handle) params) a) ≡ true
follows-run c t n m handle params a J s fits =
    let so = s.so_far in
    let k = ran t n handle params (step (of_tenure t J)) (of_tenure t J) so s.next in
    let one : OneHandle t n handle (handles J) = rw s.live k.one in
    let given = given_parts handle (of_tenure t J) k.gave in
    follows-work c t n m (Exec (Handle handle) params) a J s refl
    (record {
      in_order = beyond c t n m (Exec (Handle handle) params) a J s k.low;
      close = refl;
      cursor = refl;
      skip = so.skipped k.early;
      run = given.0;
      rows_first = refl;
    }) (names_handle c t n m handle (Exec (Handle handle) params) a J one refl refl) fits

pub follows-handle : (c t n m : ℕ) (handle : ℕ) (params : List Param) (a : DriverAnswer) (J : List Entry) → Sends c t n (Query (Handle handle) params) J
    → fits_at_its_place J (sent_entry c t n m (Query (Handle handle) params) a) ≡ true → may_follow J (sent_entry c t n m (Query (Handle handle) params) a) ≡ true
follows-handle c t n m handle params a J s fits =
    let so = s.so_far in
    let k = queried t n handle params (step (of_tenure t J)) (of_tenure t J) so s.next in
    let one : OneHandle t n handle (handles J) = rw s.live k.one in
    let given = given_parts handle (of_tenure t J) k.gave in
    follows-work c t n m (Query (Handle handle) params) a J s refl
    (record {
      in_order = beyond c t n m (Query (Handle handle) params) a J s k.low;
      close = refl;
      cursor = refl;
      skip = so.skipped k.early;
      run = given.0;
      rows_first = refl;
    }) (names_handle c t n m handle (Query (Handle handle) params) a J one refl refl) fits

-- What is known of a handle that the call closes.
record Closed (t n handle : ℕ) (u : Step) (L : List Entry) : Type 0 where
  one : OneHandle t n handle (handles L)
  gave : list_any (λ x. is_number (given_handle x.answer) handle) L ≡ true
  low : level u < 6
  none : cursors L ≡ []

closed : (t n handle : ℕ) (u : Step) (L : List Entry) → SoFar t n u L → goes u (CloseStmt handle) ≡ true → Closed t n handle u L
closed t n handle (WasPrepared given) L so h =
    let is : given ≡ handle = same_number given handle h in
    let had : SoFar t n (WasPrepared handle) L = rw is at so in
    let both = given_parts handle L had.given in
    record { one = had.live; gave = both.1; low = omega arith; none = had.open_rows }
closed t n handle (WasRun given) L so h =
    let is : given ≡ handle = same_number given handle h in
    let had : SoFar t n (WasRun handle) L = rw is at so in
    let both = given_parts handle L had.given in
    record { one = had.live; gave = both.1; low = omega arith; none = had.open_rows }
closed t n handle _ L so h = absurd cc

or_so : (a b : Bool) → b ≡ true → a || b ≡ true
or_so true b h = refl
or_so false b h = h

pub follows-close : (c t n m : ℕ) (handle : ℕ) (a : DriverAnswer) (J : List Entry) → Sends c t n (CloseStmt handle) J
    → fits_at_its_place J (sent_entry c t n m (CloseStmt handle) a) ≡ true → may_follow J (sent_entry c t n m (CloseStmt handle) a) ≡ true
follows-close c t n m handle a J s fits =
    let so = s.so_far in
    let k = closed t n handle (step (of_tenure t J)) (of_tenure t J) so s.next in
    let one : OneHandle t n handle (handles J) = rw s.live k.one in
    let none : cursors J ≡ [] = s.open_rows ∙ k.none in
    follows-work c t n m (CloseStmt handle) a J s refl
    (record {
      in_order = beyond c t n m (CloseStmt handle) a J s k.low;
      close = k.gave;
      cursor = refl;
      skip = refl;
      run = refl;
      rows_first = or_so (is_bad a) (has_closed_cursors t J) (rw none refl);
    }) (names_handle c t n m handle (CloseStmt handle) a J one refl refl) fits

-- What is known of a cursor from which the call fetches a row.
record Fetched (t n rows : ℕ) (u : Step) (L : List Entry) : Type 0 where
  columns : ℕ
  is : cursors L ≡ own_cursor t rows columns false ∷ []
  gave : opened rows L ≡ true
  low : level u ≤ 4

fetched : (t n rows : ℕ) (u : Step) (L : List Entry) → SoFar t n u L → goes u (Next rows) ≡ true → Fetched t n rows u L
fetched t n rows (HasRows own given) L so h =
    let is : given ≡ rows = same_number given rows h in
    let had : SoFar t n (HasRows own rows) L = rw is at so in
    record { columns = had.open_rows.columns; is = had.open_rows.is; gave = had.given.1; low = omega arith }
fetched t n rows (HasRead own given false) L so h =
    let is : given ≡ rows = same_number given rows h in
    let had : SoFar t n (HasRead own rows false) L = rw is at so in
    record { columns = had.open_rows.columns; is = had.open_rows.is; gave = had.given.1; low = omega arith }
fetched t n rows _ L so h = absurd cc

pub follows-next : (c t n m : ℕ) (rows : ℕ) (a : DriverAnswer) (J : List Entry) → Sends c t n (Next rows) J
    → fits_at_its_place J (sent_entry c t n m (Next rows) a) ≡ true → may_follow J (sent_entry c t n m (Next rows) a) ≡ true
follows-next c t n m rows a J s fits =
    let so = s.so_far in
    let k = fetched t n rows (step (of_tenure t J)) (of_tenure t J) so s.next in
    follows-work c t n m (Next rows) a J s refl
    (record {
      in_order = next_in_order (of_tenure t J) (raised (level (step (of_tenure t J))) 4 (of_tenure t J) k.low so.leveled);
      close = refl;
      cursor = k.gave;
      skip = refl;
      run = refl;
      rows_first = refl;
    }) (names_cursor c t n m rows k.columns false (Next rows) a J (s.open_rows ∙ k.is) refl refl (λ _. refl)) fits

-- What is known of a cursor that the call closes.
record Freed (t n rows : ℕ) (u : Step) (L : List Entry) : Type 0 where
  columns : ℕ
  over : Bool
  is : cursors L ≡ own_cursor t rows columns over ∷ []
  gave : opened rows L ≡ true
  low : level u < 5

freed : (t n rows : ℕ) (u : Step) (L : List Entry) → SoFar t n u L → goes u (CloseRows rows) ≡ true → Freed t n rows u L
freed t n rows (HasRows own given) L so h =
    let is : given ≡ rows = same_number given rows h in
    let had : SoFar t n (HasRows own rows) L = rw is at so in
    record { columns = had.open_rows.columns; over = false; is = had.open_rows.is; gave = had.given.1; low = omega arith }
freed t n rows (HasRead own given over) L so h =
    let is : given ≡ rows = same_number given rows h in
    let had : SoFar t n (HasRead own rows over) L = rw is at so in
    record { columns = had.open_rows.columns; over = over; is = had.open_rows.is; gave = had.given.1; low = omega arith }
freed t n rows _ L so h = absurd cc

pub follows-free : (c t n m : ℕ) (rows : ℕ) (a : DriverAnswer) (J : List Entry) → Sends c t n (CloseRows rows) J
    → fits_at_its_place J (sent_entry c t n m (CloseRows rows) a) ≡ true → may_follow J (sent_entry c t n m (CloseRows rows) a) ≡ true
follows-free c t n m rows a J s fits =
    let so = s.so_far in
    let k = freed t n rows (step (of_tenure t J)) (of_tenure t J) so s.next in
    follows-work c t n m (CloseRows rows) a J s refl
    (record {
      in_order = beyond c t n m (CloseRows rows) a J s k.low;
      close = refl;
      cursor = k.gave;
      skip = refl;
      run = refl;
      rows_first = refl;
    }) (names_cursor c t n m rows k.columns k.over (CloseRows rows) a J (s.open_rows ∙ k.is) refl refl (λ is. absurd cc)) fits
