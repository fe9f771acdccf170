-- What is known of a line stays true after what its course sends next.
use Rattle.std.proofs.Common.{◌≡◌, ℕ, ℤ, Bool, true, false, not, ◌&&◌, ◌||◌, List, ◌∷◌, Option, None, Some, refl, nat_lt}
use Rattle.std.specs.Prelude.{is_some}
use Rattle.std.specs.List.{list_all, list_any}
use Rattle.dsql_history.specs.driver.declared.caps.Caps.{Caps}
use Rattle.dsql_history.specs.course.declared.course.Course.{Course}
use Rattle.dsql_history.specs.course.declared.call.Due.{Due}
use Rattle.dsql_history.specs.course.declared.call.Due.TheVariants as due
use Rattle.dsql_history.specs.course.declared.call.Got.{Got}
use Rattle.dsql_history.specs.course.declared.call.Got.TheVariants as got
use Rattle.dsql_history.specs.course.Made.{Exchange, own_handle, own_cursor, or_else, has_fast_way, reads_rows, rows_are_over, ends_rows, given_cursor, given_handle}
use Rattle.dsql_history.specs.course.Line.{may_get}
use Rattle.dsql_history.specs.journal.Kinds.{◌⇒◌}
use Rattle.dsql_history.proofs.journal.Conjunctions.{parts2, join2, if_so, so_if}
use Rattle.dsql_laws_tenures.specs.Orderly.{gives_cursor, gives_handle, closes_rows, opens_once, place, is_fetch, is_in_order}
use Rattle.dsql_laws_tenures.proofs.Numbers.{impossible, true_false, or_later}
use Rattle.dsql_laws_tenures.proofs.Orders.{is_text, is_prepare, is_free, Orderly}

-- The driver gives a cursor only to the run of a text or a handle, and only in a course that reads rows.
pub cursor_to : (c : Course) (d : Due) (g : Got) → may_get c d g ≡ true → gives_cursor (d, g) ≡ true → (reads_rows c ≡ true) × (is_prepare d ≡ false)
cursor_to c due.Text (got.Cursor rows) h k = (h, refl)
cursor_to c (due.Handle handle) (got.Cursor rows) h k = (h, refl)
cursor_to c _ (got.Cursor rows) h k = absurd (impossible h)
cursor_to c d _ h k = absurd (impossible k)

handle_to : (c : Course) (d : Due) (g : Got) → may_get c d g ≡ true → is_some (given_handle g) ≡ true → is_prepare d ≡ true
handle_to c due.Prepare (got.Prepared handle inputs) h k = refl
handle_to c _ (got.Prepared handle inputs) h k = absurd (impossible h)
handle_to c d _ h k = absurd (impossible k)

-- What holds of an exchange that comes next in a line.
pub record Fresh (c : Course) (can : Caps) (made : List Exchange) (d : Due) (g : Got) : Type 0 where
  pub behind : list_all (λ y. nat_lt (place y.0) (place d) || is_fetch d && is_fetch y.0) made ≡ true
  pub placed : nat_lt 0 (place d) ≡ true
  pub may : may_get c d g ≡ true
  pub only : gives_cursor (d, g) ≡ true → list_any (λ y. gives_cursor y || closes_rows y.0) made ≡ false
  pub prepares : is_prepare d ≡ true → list_all (λ y. gives_cursor y ⇒ nat_lt 2 (place y.0)) made ≡ true
  pub late : list_any (λ y. is_prepare y.0) made ≡ true → gives_cursor (d, g) ≡ true → nat_lt 2 (place d) ≡ true
  pub fast : is_text d ≡ true → has_fast_way c can ≡ true
  pub closed : is_some (own_cursor ((d, g) ∷ made)) ≡ true → is_free d || list_any (λ y. is_free y.0) made ≡ true → ends_rows (d, g) || rows_are_over made ≡ true

pub split : (b c : Bool) (P : Type 0) → (b ≡ true → P) → (c ≡ true → P) → b || c ≡ true → P
split true c P f g h = f refl
split false c P f g h = g h

pub some_of : (o p : Option ℕ) → is_some (or_else o p) ≡ true → is_some o || is_some p ≡ true
some_of None p h = h
some_of (Some x) p h = refl

some_handle : (o p : Option (ℕ × ℤ)) → is_some (or_else o p) ≡ true → is_some o || is_some p ≡ true
some_handle None p h = h
some_handle (Some x) p h = refl

or_first : (a b : Bool) → a ≡ true → a || b ≡ true
or_first a b h = rw h refl

pub orderly_more : (c : Course) (can : Caps) (made : List Exchange) (d : Due) (g : Got) → Orderly c can made → Fresh c can made d g → Orderly c can ((d, g) ∷ made)
orderly_more c can made d g o f = record {
  order = join2 (is_in_order made) (list_all (λ y. nat_lt (place y.0) (place d) || is_fetch d && is_fetch y.0) made) o.order f.behind;
  once =
      join2 (opens_once made) (gives_cursor (d, g) ⇒ not (list_any (λ y. gives_cursor y || closes_rows y.0) made)) o.once
      (so_if (gives_cursor (d, g)) (not (list_any (λ y. gives_cursor y || closes_rows y.0) made)) (λ gives. rw (f.only gives) refl));
  placed = join2 (nat_lt 0 (place d)) (list_all (λ y. nat_lt 0 (place y.0)) made) f.placed o.placed;
  reads =
      so_if (is_some (own_cursor ((d, g) ∷ made))) (reads_rows c) (λ some.
      split (gives_cursor (d, g)) (is_some (own_cursor made)) (reads_rows c ≡ true)
      (λ gives. (cursor_to c d g f.may gives).0) (λ had. if_so (is_some (own_cursor made)) (reads_rows c) o.reads had) (some_of (given_cursor g) (own_cursor made) some));
  prepared =
      so_if (is_prepare d || list_any (λ y. is_prepare y.0) made) ((gives_cursor (d, g) ⇒ nat_lt 2 (place d)) && list_all (λ y. gives_cursor y ⇒ nat_lt 2 (place y.0)) made) (λ some.
      split (is_prepare d) (list_any (λ y. is_prepare y.0) made) ((gives_cursor (d, g) ⇒ nat_lt 2 (place d)) && list_all (λ y. gives_cursor y ⇒ nat_lt 2 (place y.0)) made ≡ true)
      (λ is. join2 (gives_cursor (d, g) ⇒ nat_lt 2 (place d)) (list_all (λ y. gives_cursor y ⇒ nat_lt 2 (place y.0)) made)
      (so_if (gives_cursor (d, g)) (nat_lt 2 (place d)) (λ gives. absurd (true_false (is_prepare d) is (cursor_to c d g f.may gives).1))) (f.prepares is))
      (λ had. join2 (gives_cursor (d, g) ⇒ nat_lt 2 (place d)) (list_all (λ y. gives_cursor y ⇒ nat_lt 2 (place y.0)) made)
      (so_if (gives_cursor (d, g)) (nat_lt 2 (place d)) (f.late had)) (if_so (list_any (λ y. is_prepare y.0) made) (list_all (λ y. gives_cursor y ⇒ nat_lt 2 (place y.0)) made) o.prepared had))
      some);
  handle =
      so_if (is_some (own_handle ((d, g) ∷ made))) (is_prepare d || list_any (λ y. is_prepare y.0) made) (λ some.
      split (is_some (given_handle g)) (is_some (own_handle made)) (is_prepare d || list_any (λ y. is_prepare y.0) made ≡ true)
      (λ gives. or_first (is_prepare d) (list_any (λ y. is_prepare y.0) made) (handle_to c d g f.may gives))
      (λ had. or_later (is_prepare d) (list_any (λ y. is_prepare y.0) made) (if_so (is_some (own_handle made)) (list_any (λ y. is_prepare y.0) made) o.handle had))
      (some_handle (given_handle g) (own_handle made) some));
  given =
      join2 (gives_handle (d, g) ⇒ is_prepare d) (list_all (λ y. gives_handle y ⇒ is_prepare y.0) made) (so_if (gives_handle (d, g)) (is_prepare d) (λ gives. handle_to c d g f.may gives)) o.given;
  fast =
      so_if (is_text d || list_any (λ y. is_text y.0) made) (has_fast_way c can)
      (split (is_text d) (list_any (λ y. is_text y.0) made) (has_fast_way c can ≡ true) f.fast (if_so (list_any (λ y. is_text y.0) made) (has_fast_way c can) o.fast));
  closed =
      so_if (is_some (own_cursor ((d, g) ∷ made)) && (is_free d || list_any (λ y. is_free y.0) made)) (ends_rows (d, g) || rows_are_over made) (λ both.
      let p = parts2 (is_some (own_cursor ((d, g) ∷ made))) (is_free d || list_any (λ y. is_free y.0) made) both in f.closed p.0 p.1);
}
