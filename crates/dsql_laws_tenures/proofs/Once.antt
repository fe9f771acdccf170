-- What a line that opens rows once keeps of its cursor as it goes on.
use Rattle.std.proofs.Common.{◌≡◌, ℕ, Bool, true, false, not, ◌==◌, ◌||◌, inl, inr, List, [], ◌∷◌, Option, None, Some, refl}
use Rattle.std.specs.Prelude.{is_some}
use Rattle.std.specs.List.{list_any}
use Rattle.dsql_history.specs.value.declared.value.Param.{Param}
use Rattle.dsql_history.specs.driver.declared.call.DriverCall.{DriverCall}
use Rattle.dsql_history.specs.driver.declared.call.DriverCall.TheVariants.{Ping, Prepare, Exec, Query, Next, CloseRows, CloseStmt}
use Rattle.dsql_history.specs.driver.declared.call.Input.{Input}
use Rattle.dsql_history.specs.driver.declared.call.Input.TheVariants.{Text, Handle}
use Rattle.dsql_history.specs.driver.declared.answer.DriverAnswer.{DriverAnswer}
use Rattle.dsql_history.specs.driver.declared.answer.DriverAnswer.TheVariants.{Cursor}
use Rattle.dsql_history.specs.driver.Kinds.{given_cursor}
use Rattle.dsql_history.specs.course.declared.call.Due.{Due}
use Rattle.dsql_history.specs.course.declared.call.Due.TheVariants as due
use Rattle.dsql_history.specs.course.declared.call.Got.{Got}
use Rattle.dsql_history.specs.course.declared.call.Got.TheVariants as got
use Rattle.dsql_history.specs.course.Made.{Exchange, own_cursor, given_cursor as cursor_in, or_else}
use Rattle.dsql_history.specs.journal.declared.entry.Entry.{Entry}
use Rattle.dsql_history.specs.journal.Kinds.{◌⇒◌}
use Rattle.dsql_history.proofs.journal.Conjunctions.{parts2}
use Rattle.dsql_history.specs.works.Exchanges.{got_of, step_of, with_exchange}
use Rattle.dsql_history.specs.Readers.Lines.{closes_cursor, has_cursor}
use Rattle.dsql_laws_tenures.specs.Tenures.{made_by}
use Rattle.dsql_laws_tenures.specs.Orderly.{gives_cursor, closes_rows, opens_once, OpensOnce}
use Rattle.dsql_laws_tenures.proofs.Numbers.{is_itself, impossible, not_true, neither}
use Rattle.dsql_laws_tenures.proofs.LineSteps.{line_step}

-- Is true if the driver call closes this cursor.
abbrev pub closes_it : ℕ → DriverCall → Bool
closes_it r (CloseRows rows) = rows == r
closes_it r _ = false

got_none : (a : DriverAnswer) → given_cursor a ≡ None → cursor_in (got_of a) ≡ None
got_none (Cursor rows columns) h = absurd cc
got_none _ h = refl

one_on : (d : Due) (g : Got) (made : List Exchange) (r : ℕ) → cursor_in g ≡ None → closes_cursor r d ≡ false → has_cursor made r ≡ true → has_cursor ((d, g) ∷ made) r ≡ true
one_on d g made r none off h = rw (none, off) h

pub keeps_cursor : (r : ℕ) (q : DriverCall) (a : DriverAnswer) (made : List Exchange) → given_cursor a ≡ None → closes_it r q ≡ false → has_cursor made r ≡ true → has_cursor (with_exchange (step_of q) a made) r ≡ true
keeps_cursor r (Query (Text text) params) a made none off h = one_on due.Text (got_of a) made r (got_none a none) refl h
keeps_cursor r (Query (Handle handle) params) a made none off h = one_on (due.Handle handle) (got_of a) made r (got_none a none) refl h
keeps_cursor r (Exec (Text text) params) a made none off h = one_on due.Text (got_of a) made r (got_none a none) refl h
keeps_cursor r (Exec (Handle handle) params) a made none off h = one_on (due.Handle handle) (got_of a) made r (got_none a none) refl h
keeps_cursor r (Prepare text) a made none off h = one_on due.Prepare (got_of a) made r (got_none a none) refl h
keeps_cursor r (Next rows) a made none off h = one_on (due.Next rows) (got_of a) made r (got_none a none) refl h
keeps_cursor r (CloseRows rows) a made none off h = one_on (due.CloseRows rows) (got_of a) made r (got_none a none) off h
keeps_cursor r (CloseStmt handle) a made none off h = one_on (due.CloseStmt handle) (got_of a) made r (got_none a none) refl h
keeps_cursor r Ping a made none off h = one_on due.Ping (got_of a) made r (got_none a none) refl h
keeps_cursor r _ a made none off h = h

-- If no cursor was given and no rows were closed, the line has no cursor.
none_given : (made : List Exchange) → list_any (λ y. gives_cursor y || closes_rows y.0) made ≡ false → own_cursor made ≡ None
none_given [] h = refl
none_given (x ∷ made) h =
    let both = neither (gives_cursor x || closes_rows x.0) (list_any (λ y. gives_cursor y || closes_rows y.0) made) h in
    let here = neither (gives_cursor x) (closes_rows x.0) both.0 in
    by_given (cursor_in x.1) here.0 (none_given made both.1)
  where
    by_given : (o : Option ℕ) → is_some o ≡ false → own_cursor made ≡ None → or_else o (own_cursor made) ≡ None
    by_given None h none = none
    by_given (Some r) h none = absurd cc

closes_none : (r : ℕ) (d : Due) → closes_rows d ≡ false → closes_cursor r d ≡ false
closes_none r (due.CloseRows rows) h = absurd cc
closes_none r _ h = refl

none_closed : (r : ℕ) (made : List Exchange) → list_any (λ y. gives_cursor y || closes_rows y.0) made ≡ false → list_any (λ x. closes_cursor r x.0) made ≡ false
none_closed r [] h = refl
none_closed r (x ∷ made) h =
    let both = neither (gives_cursor x || closes_rows x.0) (list_any (λ y. gives_cursor y || closes_rows y.0) made) h in
    let here = neither (gives_cursor x) (closes_rows x.0) both.0 in
    rw (closes_none r x.0 here.1) (none_closed r made both.1)

-- If the newest exchange gives a cursor, none was given and no rows were closed before it.
first_given : (d : Due) (rows : ℕ) (made : List Exchange) → opens_once ((d, got.Cursor rows) ∷ made) ≡ true → list_any (λ y. gives_cursor y || closes_rows y.0) made ≡ false
first_given d rows made h =
    not_true (list_any (λ y. gives_cursor y || closes_rows y.0) made) (parts2 (opens_once made) (not (list_any (λ y. gives_cursor y || closes_rows y.0) made)) h).1

none_had : (made : List Exchange) (r : ℕ) → own_cursor made ≡ None → has_cursor made r ≡ true → ⊥
none_had made r none h = impossible (rw none at h)

-- After a query gives a cursor, the line has that cursor; before the query it had none.
pub gives_now : (input : Input) (params : List Param) (rows : ℕ) (columns : List (List ℕ)) (made : List Exchange) → opens_once (with_exchange (step_of (Query input params)) (Cursor rows columns) made) ≡ true
    → (has_cursor (with_exchange (step_of (Query input params)) (Cursor rows columns) made) rows ≡ true) × ((r : ℕ) → has_cursor made r ≡ true → ⊥)
gives_now (Text text) params rows columns made h =
    let first = first_given due.Text rows made h in
    (rw (is_itself rows, none_closed rows made first) refl, λ r. none_had made r (none_given made first))
gives_now (Handle handle) params rows columns made h =
    let first = first_given (due.Handle handle) rows made h in
    (rw (is_itself rows, none_closed rows made first) refl, λ r. none_had made r (none_given made first))

pub once_before : (d : Option Due) (a : DriverAnswer) (made : List Exchange) → opens_once (with_exchange d a made) ≡ true → opens_once made ≡ true
once_before None a made h = h
once_before (Some call) a made h =
    (parts2 (opens_once made) (gives_cursor (call, got_of a) ⇒ not (list_any (λ y. gives_cursor y || closes_rows y.0) made)) h).0

-- If `OpensOnce` holds, it held before the newest entry.
pub OpensOnce-before : (t : ℕ) (e : Entry) (J : List Entry) → OpensOnce t (e ∷ J) → OpensOnce t J
OpensOnce-before t e J s = record {
  line = λ n. elim (line_step n t e J) [
    | inl w ↦ rw w.same at (s.line n)
    | inr w ↦ once_before (step_of e.call) e.answer (made_by n t J) (rw w.more at (s.line n))
  ];
}
