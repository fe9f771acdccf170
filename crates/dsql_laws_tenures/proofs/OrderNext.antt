-- What a course sends next keeps what is known of its line.
use Rattle.std.proofs.Common.{◌≡◌, ℕ, ℤ, Bool, true, false, not, ◌&&◌, ◌||◌, ◌⊎◌, inl, inr, List, [], ◌∷◌, Some, refl, nat_lt, nat_le}
use Rattle.std.specs.Prelude.{is_some}
use Rattle.std.specs.List.{list_all, list_any}
use native.Mathlib.Omega.{arith}
use Rattle.std.proofs.lemmas.Bool.Decides.{nat_tests}
use Rattle.dsql_history.specs.driver.declared.caps.Caps.{Caps}
use Rattle.dsql_history.specs.course.declared.course.Course.{Course}
use Rattle.dsql_history.specs.course.declared.call.Due.{Due}
use Rattle.dsql_history.specs.course.declared.call.Due.TheVariants as due
use Rattle.dsql_history.specs.course.declared.call.Got.{Got}
use Rattle.dsql_history.specs.course.declared.call.Got.TheVariants as got
use Rattle.dsql_history.specs.course.Made.{Exchange, own_handle, own_cursor, has_fast_way, was_skipped, is_skip, rows_are_over, given_cursor}
use Rattle.dsql_history.specs.course.Line.{when, may_get}
use Rattle.dsql_history.specs.journal.Kinds.{◌⇒◌}
use Rattle.dsql_history.proofs.journal.Conjunctions.{parts2, join2, if_so}
use Rattle.dsql_laws_tenures.specs.Orderly.{gives_cursor, closes_rows, place, is_fetch}
use Rattle.dsql_laws_tenures.proofs.Numbers.{impossible, true_false, neither_of}
use Rattle.dsql_laws_tenures.proofs.Steps.{within, beyond}
use Rattle.dsql_laws_tenures.proofs.Orders.{is_prepare, is_free, Orderly, stands_behind, at_text}
use Rattle.dsql_laws_tenures.proofs.OrderSteps.{Fresh, split, some_of}

pub none_free : (p : ℕ) (made : List Exchange) → within p made ≡ true → nat_lt p 6 ≡ true → list_any (λ y. is_free y.0) made ≡ false
none_free p [] h k = refl
none_free p (x ∷ made) h k =
    let q = parts2 (nat_le (place x.0) p) (within p made) h in
    rw (no_free x.0 (beyond (place x.0) p 6 q.0 k)) (none_free p made q.1 k)
  where
    no_free : (d : Due) → nat_lt (place d) 6 ≡ true → is_free d ≡ false
    no_free (due.CloseStmt handle) l = absurd cc
    no_free _ l = refl

-- Before the run of the handle, no cursor was given.
none_before : (p : ℕ) (made : List Exchange) → within p made ≡ true → nat_lt p 3 ≡ true → list_all (λ y. gives_cursor y ⇒ nat_lt 2 (place y.0)) made ≡ true
    → list_any (λ y. gives_cursor y || closes_rows y.0) made ≡ false
none_before p [] low k all = refl
none_before p (x ∷ made) low k all =
    let l = parts2 (nat_le (place x.0) p) (within p made) low in
    let a = parts2 (gives_cursor x ⇒ nat_lt 2 (place x.0)) (list_all (λ y. gives_cursor y ⇒ nat_lt 2 (place y.0)) made) all in
    neither_of (gives_cursor x || closes_rows x.0) (list_any (λ y. gives_cursor y || closes_rows y.0) made)
    (neither_of (gives_cursor x) (closes_rows x.0) (not_given (gives_cursor x) (place x.0) (beyond (place x.0) p 3 l.0 k) a.0) (not_closed x.0 (beyond (place x.0) p 3 l.0 k)))
    (none_before p made l.1 k a.1)
  where
    not_given : (b : Bool) (m : ℕ) → nat_lt m 3 ≡ true → b ⇒ nat_lt 2 m ≡ true → b ≡ false
    not_given true m h j = absurd (grind (arith, nat_tests, h, j))
    not_given false m h j = refl

    not_closed : (d : Due) → nat_lt (place d) 3 ≡ true → closes_rows d ≡ false
    not_closed (due.CloseRows rows) h = absurd cc
    not_closed _ h = refl

pub when_is : (b : Bool) (call d : Due) → when b call ≡ Some d → (b ≡ true) × (call ≡ d)
when_is true call d h = (refl, cc)
when_is false call d h = absurd cc

pub to_zero : (p : ℕ) → nat_lt p 1 ≡ true → p ≡ 0
to_zero p h = grind (arith, nat_tests, h)

at_most_one : (p : ℕ) → nat_lt p 2 ≡ true → nat_le p 1 ≡ true
at_most_one p h = grind (arith, nat_tests, h)

raised : (p q : ℕ) (made : List Exchange) → nat_le p q ≡ true → within p made ≡ true → within q made ≡ true
raised p q [] h low = refl
raised p q (x ∷ made) h low =
    let l = parts2 (nat_le (place x.0) p) (within p made) low in
    join2 (nat_le (place x.0) q) (within q made) (up (place x.0) l.0) (raised p q made h l.1)
  where
    up : (m : ℕ) → nat_le m p ≡ true → nat_le m q ≡ true
    up m k = grind (arith, nat_tests, h, k)

-- Is true of the fetch and the closes, which give no cursor.
abbrev gives_none : Due → Bool
gives_none (due.Next rows) = true
gives_none (due.CloseRows rows) = true
gives_none (due.CloseStmt handle) = true
gives_none due.Prepare = true
gives_none _ = false

no_cursor : (c : Course) (d : Due) (g : Got) → gives_none d ≡ true → may_get c d g ≡ true → gives_cursor (d, g) ≡ true → ⊥
no_cursor c (due.Next r) (got.Cursor rows) is may gives = impossible may
no_cursor c (due.CloseRows r) (got.Cursor rows) is may gives = impossible may
no_cursor c (due.CloseStmt handle) (got.Cursor rows) is may gives = impossible may
no_cursor c due.Prepare (got.Cursor rows) is may gives = impossible may
no_cursor c due.Text (got.Cursor rows) is may gives = impossible is
no_cursor c (due.Handle handle) (got.Cursor rows) is may gives = impossible is
no_cursor c _ (got.Cursor rows) is may gives = impossible is
no_cursor c d _ is may gives = impossible gives

pub fresh_text : (c : Course) (can : Caps) (g : Got) → may_get c due.Text g ≡ true → has_fast_way c can ≡ true → Fresh c can [] due.Text g
fresh_text c can g may fast = record {
  behind = refl;
  placed = refl;
  may = may;
  only = λ _. refl;
  prepares = λ is. absurd (impossible is);
  late = λ is. absurd (impossible is);
  fast = λ _. fast;
  closed = λ some is. absurd (impossible is);
}

pub fresh_prepare : (c : Course) (can : Caps) (p : ℕ) (made : List Exchange) (g : Got) → Orderly c can made → within p made ≡ true → nat_lt p 2 ≡ true → not (has_fast_way c can) || was_skipped made ≡ true
    → may_get c due.Prepare g ≡ true → Fresh c can made due.Prepare g
fresh_prepare c can p made g o low k skipped may = record {
  behind = stands_behind p due.Prepare made low k;
  placed = refl;
  may = may;
  only = λ gives. absurd (no_cursor c due.Prepare g refl may gives);
  prepares = λ _. by_text (at_text made (raised p 1 made (at_most_one p k) low) o.placed o.order);
  late = λ had gives. absurd (no_cursor c due.Prepare g refl may gives);
  fast = λ is. absurd (impossible is);
  closed = λ some is. absurd (true_false (list_any (λ y. is_free y.0) made) is (none_free p made low (lower k)));
}
  where
    lower : nat_lt p 2 ≡ true → nat_lt p 6 ≡ true
    lower h = grind (arith, nat_tests, h)

    not_fast : (b : Bool) → b ≡ true → not b || false ≡ true → ⊥
    not_fast true h k = impossible k
    not_fast false h k = impossible h

    was_fast : (b : Bool) → true || false ⇒ b ≡ true → b ≡ true
    was_fast true h = refl
    was_fast false h = h

    by_answer : (x : Got) → has_fast_way c can ≡ true → not (has_fast_way c can) || (is_skip x || false) ≡ true → (gives_cursor (due.Text, x) ⇒ false) && true ≡ true
    by_answer got.Skip h j = refl
    by_answer (got.Cursor rows) h j = absurd (not_fast (has_fast_way c can) h j)
    by_answer _ h j = refl

    by_text : (made ≡ []) ⊎ ((x : Got) × (made ≡ (due.Text, x) ∷ [])) → list_all (λ y. gives_cursor y ⇒ nat_lt 2 (place y.0)) made ≡ true
    by_text (inl is) = rw is refl
    by_text (inr w) = rw w.1 (by_answer w.0 (was_fast (has_fast_way c can) (rw w.1 at o.fast)) (rw w.1 at skipped))

pub fresh_run : (c : Course) (can : Caps) (p handle : ℕ) (inputs : ℤ) (made : List Exchange) (g : Got) → Orderly c can made → within p made ≡ true → nat_lt p 3 ≡ true → own_handle made ≡ Some (handle, inputs)
    → may_get c (due.Handle handle) g ≡ true → Fresh c can made (due.Handle handle) g
fresh_run c can p handle inputs made g o low k own may = record {
  behind = stands_behind p (due.Handle handle) made low k;
  placed = refl;
  may = may;
  only = λ _. none_before p made low k (if_so (list_any (λ y. is_prepare y.0) made) (list_all (λ y. gives_cursor y ⇒ nat_lt 2 (place y.0)) made) o.prepared was_prepared);
  prepares = λ is. absurd (impossible is);
  late = λ _ gives. refl;
  fast = λ is. absurd (impossible is);
  closed = λ some is. absurd (true_false (list_any (λ y. is_free y.0) made) is (none_free p made low (lower k)));
}
  where
    lower : nat_lt p 3 ≡ true → nat_lt p 6 ≡ true
    lower h = grind (arith, nat_tests, h)

    was_prepared : list_any (λ y. is_prepare y.0) made ≡ true
    was_prepared = if_so (is_some (own_handle made)) (list_any (λ y. is_prepare y.0) made) o.handle (rw own refl)

pub fresh_next : (c : Course) (can : Caps) (rows : ℕ) (made : List Exchange) (g : Got) → list_all (λ y. nat_lt (place y.0) 4 || is_fetch (due.Next rows) && is_fetch y.0) made ≡ true
    → list_any (λ y. is_free y.0) made ≡ false → may_get c (due.Next rows) g ≡ true → Fresh c can made (due.Next rows) g
fresh_next c can rows made g behind free may = record {
  behind = behind;
  placed = refl;
  may = may;
  only = λ gives. absurd (no_cursor c (due.Next rows) g refl may gives);
  prepares = λ is. absurd (impossible is);
  late = λ had gives. absurd (no_cursor c (due.Next rows) g refl may gives);
  fast = λ is. absurd (impossible is);
  closed = λ some is. absurd (true_false (list_any (λ y. is_free y.0) made) is free);
}

pub fresh_close : (c : Course) (can : Caps) (p rows : ℕ) (made : List Exchange) (g : Got) → within p made ≡ true → nat_lt p 5 ≡ true → may_get c (due.CloseRows rows) g ≡ true → Fresh c can made (due.CloseRows rows) g
fresh_close c can p rows made g low k may = record {
  behind = stands_behind p (due.CloseRows rows) made low k;
  placed = refl;
  may = may;
  only = λ gives. absurd (no_cursor c (due.CloseRows rows) g refl may gives);
  prepares = λ is. absurd (impossible is);
  late = λ had gives. absurd (no_cursor c (due.CloseRows rows) g refl may gives);
  fast = λ is. absurd (impossible is);
  closed = λ some is. refl;
}

pub fresh_free : (c : Course) (can : Caps) (p handle : ℕ) (made : List Exchange) (g : Got) → within p made ≡ true → nat_lt p 6 ≡ true → (is_some (own_cursor made) ≡ true → rows_are_over made ≡ true)
    → may_get c (due.CloseStmt handle) g ≡ true → Fresh c can made (due.CloseStmt handle) g
fresh_free c can p handle made g low k over may = record {
  behind = stands_behind p (due.CloseStmt handle) made low k;
  placed = refl;
  may = may;
  only = λ gives. absurd (no_cursor c (due.CloseStmt handle) g refl may gives);
  prepares = λ is. absurd (impossible is);
  late = λ had gives. absurd (no_cursor c (due.CloseStmt handle) g refl may gives);
  fast = λ is. absurd (impossible is);
  closed = λ some is.
      split (gives_cursor (due.CloseStmt handle, g)) (is_some (own_cursor made)) (rows_are_over made ≡ true) (λ gives. absurd (no_cursor c (due.CloseStmt handle) g refl may gives)) over
      (some_of (given_cursor g) (own_cursor made) some);
}
