-- A tenure in which nothing was heard except resets is whole.
use Rattle.std.proofs.Common.{◌≡◌, ℕ, ◌==◌, Bool, true, false, not, ◌&&◌, ◌||◌, cond, List, [], ◌∷◌, refl, ap, ◌∙◌, if◌then◌else◌}
use Rattle.std.specs.List.{filter, list_all}
use Rattle.dsql_laws_calls.specs.driver.declared.answer.DriverAnswer.{DriverAnswer}
use Rattle.dsql_laws_calls.specs.driver.declared.answer.DriverAnswer.TheVariants.{Cursor, Prepared}
use Rattle.dsql_laws_calls.specs.driver.declared.call.DriverCall.{DriverCall}
use Rattle.dsql_laws_calls.specs.driver.declared.call.DriverCall.TheVariants.{Reset, Query, Prepare, Next, CloseRows, CloseStmt}
use Rattle.dsql_laws_calls.specs.driver.Fits.{is_done}
use Rattle.dsql_laws_calls.specs.driver.Kinds.{is_begin, is_reset}
use Rattle.dsql_laws_calls.specs.journal.declared.entry.Entry.{Entry}
use Rattle.dsql_laws_calls.specs.journal.Kinds.{◌⇒◌, is_call}
use Rattle.dsql_laws_calls.specs.journal.Readers.{of_tenure, LiveCursor, LiveHandle, begun, ended, cursors, cursors_after, cursor_changed, after_next, handles, handles_after, has, went_bad}
use Rattle.dsql_laws_calls.specs.journal.Tenure.{has_ended_transactions, has_closed_cursors, has_closed_handles, is_whole_tenure}
use Rattle.dsql_laws_calls.proofs.laws.Truths.{or_second}
use Rattle.dsql_laws_calls.proofs.laws.Tests.{both, together}

resets : (q : DriverCall) → is_reset q ≡ true → q ≡ Reset
resets Reset h = refl
resets q h = absurd cc

-- It begins no transaction.

begins_none : (L M : List Entry) → list_all (λ x. is_reset x.call) L ≡ true → list_all (λ m. has m (ended M)) (begun L) ≡ true
begins_none [] M h = refl
begins_none (e ∷ L) M h =
    let a = both (is_reset e.call) (list_all (λ x. is_reset x.call) L) h in
    ap (λ q. list_all (λ m. has m (ended M)) (if (is_begin q && is_done e.answer) then (e.tx ∷ begun L) else begun L)) (resets e.call a.0) ∙ begins_none L M a.1

-- It opens neither cursors nor handles.

abbrev closed_cursor : ℕ → LiveCursor → Bool
closed_cursor t c = not (c.tenure == t)

abbrev closed_handle : ℕ → LiveHandle → Bool
closed_handle t h = (h.tenure == t) ⇒ is_call h.owner

all_kept : {A : Type 0} (p q : A → Bool) (xs : List A) → list_all p xs ≡ true → list_all p (filter q xs) ≡ true
all_kept p q [] h = refl
all_kept p q (x ∷ xs) h =
    let a = both (p x) (list_all p xs) h in
    elim (q x) as (λ b. list_all p (cond b (x ∷ filter q xs) (filter q xs)) ≡ true) [
      | true ↦ together (p x) (list_all p (filter q xs)) a.0 (all_kept p q xs a.1)
      | false ↦ all_kept p q xs a.1
    ]

still_closed : (t rows : ℕ) (a : DriverAnswer) (cs : List LiveCursor) → list_all (closed_cursor t) cs ≡ true → list_all (closed_cursor t) (cursor_changed rows (after_next a) cs) ≡ true
still_closed t rows a [] h = refl
still_closed t rows a (c ∷ cs) h =
    let x = both (closed_cursor t c) (list_all (closed_cursor t) cs) h in
    elim (c.number == rows) as (λ b. list_all (closed_cursor t) ((if b then after_next a c else c) ∷ cursor_changed rows (after_next a) cs) ≡ true) [
      | true ↦ together (closed_cursor t c) (list_all (closed_cursor t) (cursor_changed rows (after_next a) cs)) x.0 (still_closed t rows a cs x.1)
      | false ↦ together (closed_cursor t c) (list_all (closed_cursor t) (cursor_changed rows (after_next a) cs)) x.0 (still_closed t rows a cs x.1)
    ]

other_cursor : (t : ℕ) (e : Entry) (q : DriverCall) (a : DriverAnswer) (cs : List LiveCursor) → (e.tenure == t) ≡ false → list_all (closed_cursor t) cs ≡ true → list_all (closed_cursor t) (cursors_after e q a cs) ≡ true
other_cursor t e (Query input params) (Cursor rows columns) cs away h = together (not (e.tenure == t)) (list_all (closed_cursor t) cs) (ap not away) h
other_cursor t e (Next rows) a cs away h = still_closed t rows a cs h
other_cursor t e (CloseRows rows) a cs away h = all_kept (closed_cursor t) (λ c. not (c.number == rows)) cs h
other_cursor t e q a cs away h = h

opens_none : (t : ℕ) (J : List Entry) → list_all (λ x. is_reset x.call) (of_tenure t J) ≡ true → list_all (closed_cursor t) (cursors J) ≡ true
opens_none t [] h = refl
opens_none t (e ∷ J) h = by (e.tenure == t) refl h (opens_none t J)
  where
    by : (b : Bool) → (e.tenure == t) ≡ b → list_all (λ x. is_reset x.call) (cond b (e ∷ of_tenure t J) (of_tenure t J)) ≡ true → (list_all (λ x. is_reset x.call) (of_tenure t J) ≡ true → list_all (closed_cursor t) (cursors J) ≡ true)
        → list_all (closed_cursor t) (cursors_after e e.call e.answer (cursors J)) ≡ true
    by true is k rest =
        let a = both (is_reset e.call) (list_all (λ x. is_reset x.call) (of_tenure t J)) k in
        ap (λ q. list_all (closed_cursor t) (cursors_after e q e.answer (cursors J))) (resets e.call a.0) ∙ rest a.1
    by false is k rest = other_cursor t e e.call e.answer (cursors J) is (rest k)

other_handle : (t : ℕ) (e : Entry) (q : DriverCall) (a : DriverAnswer) (hs : List LiveHandle) → (e.tenure == t) ≡ false → list_all (closed_handle t) hs ≡ true → list_all (closed_handle t) (handles_after e q a hs) ≡ true
other_handle t e (Prepare text) (Prepared handle inputs) hs away h = together ((e.tenure == t) ⇒ is_call e.owner) (list_all (closed_handle t) hs) (ap (λ b. b ⇒ is_call e.owner) away) h
other_handle t e (CloseStmt handle) a hs away h = all_kept (closed_handle t) (λ x. not (x.number == handle)) hs h
other_handle t e q a hs away h = h

prepares_none : (t : ℕ) (J : List Entry) → list_all (λ x. is_reset x.call) (of_tenure t J) ≡ true → list_all (closed_handle t) (handles J) ≡ true
prepares_none t [] h = refl
prepares_none t (e ∷ J) h = by (e.tenure == t) refl h (prepares_none t J)
  where
    by : (b : Bool) → (e.tenure == t) ≡ b → list_all (λ x. is_reset x.call) (cond b (e ∷ of_tenure t J) (of_tenure t J)) ≡ true → (list_all (λ x. is_reset x.call) (of_tenure t J) ≡ true → list_all (closed_handle t) (handles J) ≡ true)
        → list_all (closed_handle t) (handles_after e e.call e.answer (handles J)) ≡ true
    by true is k rest =
        let a = both (is_reset e.call) (list_all (λ x. is_reset x.call) (of_tenure t J)) k in
        ap (λ q. list_all (closed_handle t) (handles_after e q e.answer (handles J))) (resets e.call a.0) ∙ rest a.1
    by false is k rest = other_handle t e e.call e.answer (handles J) is (rest k)

pub whole_when_reset : (t : ℕ) (J : List Entry) → list_all (λ x. is_reset x.call) (of_tenure t J) ≡ true → is_whole_tenure t J ≡ true
whole_when_reset t J h =
    together (has_ended_transactions t J) (went_bad J || (has_closed_cursors t J && has_closed_handles t J)) (begins_none (of_tenure t J) J h)
    (or_second (went_bad J) (has_closed_cursors t J && has_closed_handles t J) (together (has_closed_cursors t J) (has_closed_handles t J) (opens_none t J h) (prepares_none t J h)))
