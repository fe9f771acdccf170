-- A cursor that a line has is live.
use Rattle.std.proofs.Common.{◌≡◌, ℕ, Bool, true, false, cond, not, ◌==◌, ◌&&◌, ◌⊎◌, inl, inr, List, [], ◌∷◌, map, length, None, refl}
use Rattle.std.specs.List.{list_all, list_any}
use native.Mathlib.Omega.{arith}
use Rattle.std.proofs.lemmas.Bool.Decides.{nat_tests}
use Rattle.dsql_history.specs.driver.declared.call.DriverCall.{DriverCall}
use Rattle.dsql_history.specs.driver.declared.call.DriverCall.TheVariants.{Ping, Prepare, Exec, Query, Next, CloseRows, CloseStmt}
use Rattle.dsql_history.specs.driver.declared.call.Input.TheVariants.{Text, Handle}
use Rattle.dsql_history.specs.driver.declared.answer.DriverAnswer.{DriverAnswer}
use Rattle.dsql_history.specs.driver.declared.answer.DriverAnswer.TheVariants.{Cursor, Row}
use Rattle.dsql_history.specs.driver.Fits.{fits_of}
use Rattle.dsql_history.specs.driver.Kinds.{cursor_of, ends_cursor, is_work, given_cursor}
use Rattle.dsql_history.specs.course.declared.call.Due.{Due}
use Rattle.dsql_history.specs.course.declared.call.Due.TheVariants as due
use Rattle.dsql_history.specs.course.declared.call.Got.{Got}
use Rattle.dsql_history.specs.course.Made.{Exchange, own_cursor, given_cursor as cursor_in, ends_rows, rows_are_over}
use Rattle.dsql_history.specs.journal.declared.entry.Entry.{Entry}
use Rattle.dsql_history.specs.journal.Kinds.{if_any, is_number}
use Rattle.dsql_history.specs.journal.Readers.{LiveCursor, is_empty, cursors_after, cursor_changed, after_next}
use Rattle.dsql_history.specs.works.Exchanges.{got_of, step_of, with_exchange}
use Rattle.dsql_history.specs.Readers.Lines.{closes_cursor, has_cursor, is_about}
use Rattle.dsql_laws_tenures.proofs.Numbers.{same_number, is_itself, impossible, true_false, neither, one_less, not_first, none_of, not_none, neither_of}
use Rattle.dsql_laws_tenures.proofs.Touched.{touches_cursor, named}

-- If a line has a cursor after an exchange that gave none, it had the cursor before, and the exchange didn't
-- close it.
fewer : (d : Due) (g : Got) (made : List Exchange) (r : ℕ) → cursor_in g ≡ None → has_cursor ((d, g) ∷ made) r ≡ true → (has_cursor made r ≡ true) × (closes_cursor r d ≡ false)
fewer d g made r none h = one_less (is_number (own_cursor made) r) (closes_cursor r d) (list_any (λ x. closes_cursor r x.0) made) (rw none at h)

pub had_cursor : (r : ℕ) (q : DriverCall) (a : DriverAnswer) (made : List Exchange) → fits_of q a ≡ true → touches_cursor r q a ≡ false → has_cursor (with_exchange (step_of q) a made) r ≡ true
    → has_cursor made r ≡ true
had_cursor r (Query (Text text) params) (Cursor rows columns) made fit off h = absurd (not_first (rows == r) (not (list_any (λ x. closes_cursor r x.0) made)) off h)
had_cursor r (Query (Handle handle) params) (Cursor rows columns) made fit off h = absurd (not_first (rows == r) (not (list_any (λ x. closes_cursor r x.0) made)) off h)
had_cursor r (Exec (Text text) params) (Cursor rows columns) made fit off h = absurd (impossible fit)
had_cursor r (Exec (Handle handle) params) (Cursor rows columns) made fit off h = absurd (impossible fit)
had_cursor r q (Cursor rows columns) made fit off h = absurd (impossible fit)
had_cursor r (Query (Text text) params) a made fit off h = (fewer due.Text (got_of a) made r refl h).0
had_cursor r (Query (Handle handle) params) a made fit off h = (fewer (due.Handle handle) (got_of a) made r refl h).0
had_cursor r (Exec (Text text) params) a made fit off h = (fewer due.Text (got_of a) made r refl h).0
had_cursor r (Exec (Handle handle) params) a made fit off h = (fewer (due.Handle handle) (got_of a) made r refl h).0
had_cursor r (Prepare text) a made fit off h = (fewer due.Prepare (got_of a) made r refl h).0
had_cursor r (Next rows) a made fit off h = (fewer (due.Next rows) (got_of a) made r refl h).0
had_cursor r (CloseRows rows) a made fit off h = (fewer (due.CloseRows rows) (got_of a) made r refl h).0
had_cursor r (CloseStmt handle) a made fit off h = (fewer (due.CloseStmt handle) (got_of a) made r refl h).0
had_cursor r Ping a made fit off h = (fewer due.Ping (got_of a) made r refl h).0
had_cursor r _ a made fit off h = h

over_more : (d : Due) (g : Got) (made : List Exchange) → rows_are_over ((d, g) ∷ made) ≡ false → (ends_rows (d, g) ≡ false) × (rows_are_over made ≡ false)
over_more d g made h = neither (ends_rows (d, g)) (rows_are_over made) h

-- Rows that aren't over weren't over before.
pub unended : (q : DriverCall) (a : DriverAnswer) (made : List Exchange) → rows_are_over (with_exchange (step_of q) a made) ≡ false → rows_are_over made ≡ false
unended (Query (Text text) params) a made h = (over_more due.Text (got_of a) made h).1
unended (Query (Handle handle) params) a made h = (over_more (due.Handle handle) (got_of a) made h).1
unended (Exec (Text text) params) a made h = (over_more due.Text (got_of a) made h).1
unended (Exec (Handle handle) params) a made h = (over_more (due.Handle handle) (got_of a) made h).1
unended (Prepare text) a made h = (over_more due.Prepare (got_of a) made h).1
unended (Next rows) a made h = (over_more (due.Next rows) (got_of a) made h).1
unended (CloseRows rows) a made h = (over_more (due.CloseRows rows) (got_of a) made h).1
unended (CloseStmt handle) a made h = (over_more (due.CloseStmt handle) (got_of a) made h).1
unended Ping a made h = (over_more due.Ping (got_of a) made h).1
unended _ a made h = h

-- Holds if exactly one of these cursors has this number, and transaction k opened it in tenure t. It isn't
-- over, unless these exchanges ended its rows.
pub record OneLive (k t r : ℕ) (made : List Exchange) (live : List LiveCursor) : Type 0 where
  pub cursor : LiveCursor
  pub only : named r live ≡ cursor ∷ []
  pub tenure : cursor.tenure ≡ t
  pub tx : cursor.tx ≡ k
  pub not_over : rows_are_over made ≡ false → cursor.over ≡ false

-- What is known of an entry that comes next. Either the entry is of the line, or the line stays as it was. In
-- the second case the entry isn't about the line if it is of that tenure.
pub record Comes (k t : ℕ) (e : Entry) (q : DriverCall) (a : DriverAnswer) (live : List LiveCursor) (before after : List Exchange) : Type 0 where
  pub fit : fits_of q a ≡ true
  pub new : if_any (given_cursor a) (λ r. is_empty (named r live)) ≡ true
  pub in_tenure : if_any (cursor_of q) (λ r. list_all (λ c. c.tenure == e.tenure) (named r live)) ≡ true
  pub line : ((after ≡ before) × ((e.tenure == t) ≡ true → is_about before q ≡ false)) ⊎ ((after ≡ with_exchange (step_of q) a before) × ((e.tenure == t) ≡ true))
  pub tx : (e.tenure == t) ≡ true → is_work q ≡ true → e.tx ≡ k

-- An entry that touches the one live cursor of tenure t is of that tenure.
stays_in : (k t r : ℕ) (e : Entry) (made : List Exchange) (live : List LiveCursor) → OneLive k t r made live → list_all (λ c. c.tenure == e.tenure) (named r live) ≡ true → (e.tenure == t) ≡ true
stays_in k t r e made live one all =
    let here : (one.cursor.tenure == e.tenure) && true ≡ true = rw one.only at all in
    let is : one.cursor.tenure ≡ t = one.tenure in
    by_tenure one.cursor.tenure is here
  where
    by_tenure : (u : ℕ) → u ≡ t → (u == e.tenure) && true ≡ true → (e.tenure == t) ≡ true
    by_tenure u is here = grind (arith, nat_tests)

opened : (k t r rows : ℕ) (columns : List (List ℕ)) (e : Entry) (live : List LiveCursor) (made : List Exchange) → rows ≡ r → is_empty (named rows live) ≡ true → (e.tenure == t) ≡ true → e.tx ≡ k
    → OneLive k t r made (record { number = rows; tenure = e.tenure; tx = e.tx; columns = length columns; over = false } ∷ live)
opened k t r rows columns e live made same new tenure tx =
    let none : named r live ≡ [] = none_of (named r live) (rw same at new) in
    let is : (rows == r) ≡ true = rw same (is_itself r) in
    record {
      cursor = record { number = rows; tenure = e.tenure; tx = e.tx; columns = length columns; over = false };
      only = rw is (rw none refl);
      tenure = same_number e.tenure t tenure;
      tx = tx;
      not_over = λ _. refl;
    }

changed-same : (r : ℕ) (f : LiveCursor → LiveCursor) → ((c : LiveCursor) → (f c).number ≡ c.number) → (live : List LiveCursor) → named r (cursor_changed r f live) ≡ map f (named r live)
changed-same r f keeps [] = refl
changed-same r f keeps (c ∷ cs) = by_it (c.number == r) refl (changed-same r f keeps cs)
  where
    by_it : (b : Bool) → (c.number == r) ≡ b → named r (cursor_changed r f cs) ≡ map f (named r cs)
        → cond ((cond b (f c) c).number == r) (cond b (f c) c ∷ named r (cursor_changed r f cs)) (named r (cursor_changed r f cs)) ≡ map f (cond b (c ∷ named r cs) (named r cs))
    by_it true is rest = rw (keeps c, is, rest) refl
    by_it false is rest = rw (is, rest) refl

-- A Next that ended no rows was answered with a row.
gives_more : (rows : ℕ) (a : DriverAnswer) → fits_of (Next rows) a ≡ true → ends_rows (due.Next rows, got_of a) ≡ false → ends_cursor a ≡ false
gives_more rows (Row values) fit h = refl
gives_more rows a fit h = absurd cc

no_cursor : (rows : ℕ) (a : DriverAnswer) → fits_of (Next rows) a ≡ true → cursor_in (got_of a) ≡ None
no_cursor rows (Cursor r columns) fit = absurd (impossible fit)
no_cursor rows a fit = refl

fetched : (k t r : ℕ) (a : DriverAnswer) (live : List LiveCursor) (before : List Exchange) → fits_of (Next r) a ≡ true → OneLive k t r before live
    → OneLive k t r ((due.Next r, got_of a) ∷ before) (cursor_changed r (after_next a) live)
fetched k t r a live before fit one = record {
  cursor = after_next a one.cursor;
  only = rw (changed-same r (after_next a) (λ c. refl) live, one.only) refl;
  tenure = one.tenure;
  tx = one.tx;
  not_over = λ o.
      let both = over_more (due.Next r) (got_of a) before o in
      neither_of one.cursor.over (ends_cursor a) (one.not_over both.1) (gives_more r a fit both.0);
}

no_close : (rows : ℕ) (a : DriverAnswer) → fits_of (CloseRows rows) a ≡ true → cursor_in (got_of a) ≡ None
no_close rows (Cursor r columns) fit = absurd (impossible fit)
no_close rows a fit = refl

-- A fetch and a close give no cursor.
pub had_fetched : (r rows : ℕ) (a : DriverAnswer) (made : List Exchange) → fits_of (Next rows) a ≡ true → has_cursor ((due.Next rows, got_of a) ∷ made) r ≡ true → has_cursor made r ≡ true
had_fetched r rows a made fit h = (fewer (due.Next rows) (got_of a) made r (no_cursor rows a fit) h).0

pub had_closed : (r rows : ℕ) (a : DriverAnswer) (made : List Exchange) → fits_of (CloseRows rows) a ≡ true → has_cursor ((due.CloseRows rows, got_of a) ∷ made) r ≡ true → has_cursor made r ≡ true
had_closed r rows a made fit h = (fewer (due.CloseRows rows) (got_of a) made r (no_close rows a fit) h).0

-- An entry that touches a cursor that the line then has leaves it the one live cursor of its number.
pub touching : (k t r : ℕ) (e : Entry) (q : DriverCall) (a : DriverAnswer) (live : List LiveCursor) (before after : List Exchange) → Comes k t e q a live before after
    → (has_cursor before r ≡ true → OneLive k t r before live) → touches_cursor r q a ≡ true → has_cursor after r ≡ true → OneLive k t r after (cursors_after e q a live)
touching k t r e (Query input params) (Cursor rows columns) live before after c one touch has =
    let same : rows ≡ r = same_number rows r touch in
    elim c.line [
      | inl w ↦
          let had = one (rw w.0 at has) in
          absurd (not_none (named r live) had.cursor had.only (rw same at c.new))
      | inr w ↦ opened k t r rows columns e live after same c.new w.1 (c.tx w.1 refl)
    ]
touching k t r e (Next rows) a live before after c one touch has =
    let same : rows ≡ r = same_number rows r touch in
    elim c.line [
      | inl w ↦
          let had : has_cursor before r ≡ true = rw w.0 at has in
          absurd (true_false (has_cursor before r) had (rw same at (w.1 (stays_in k t r e before live (one had) (rw same at c.in_tenure)))))
      | inr w ↦
          let now : has_cursor ((due.Next rows, got_of a) ∷ before) r ≡ true = rw w.0 at has in
          let had = had_fetched r rows a before c.fit now in
          rw (w.0, same) (fetched k t r a live before (rw same at c.fit) (one had))
    ]
touching k t r e (CloseRows rows) a live before after c one touch has =
    let same : rows ≡ r = same_number rows r touch in
    elim c.line [
      | inl w ↦
          let had : has_cursor before r ≡ true = rw w.0 at has in
          absurd (true_false (has_cursor before r) had (rw same at (w.1 (stays_in k t r e before live (one had) (rw same at c.in_tenure)))))
      | inr w ↦
          let now : has_cursor ((due.CloseRows rows, got_of a) ∷ before) r ≡ true = rw w.0 at has in
          absurd (true_false (rows == r) touch (fewer (due.CloseRows rows) (got_of a) before r (no_close rows a c.fit) now).1)
    ]
touching k t r e _ _ live before after c one touch has = absurd (impossible touch)
