-- What is known of a line if each of its exchanges was due when it was sent.
use Rattle.std.proofs.Common.{◌≡◌, ℕ, Bool, true, false, ◌&&◌, ◌||◌, ◌⊎◌, inl, inr, List, [], ◌∷◌, refl, nat_lt, nat_le}
use Rattle.std.specs.Prelude.{is_some}
use Rattle.std.specs.List.{list_all, list_any}
use native.Mathlib.Omega.{arith}
use Rattle.std.proofs.lemmas.Bool.Decides.{nat_tests}
use Rattle.dsql_history.specs.driver.declared.caps.Caps.{Caps}
use Rattle.dsql_history.specs.course.declared.course.Course.{Course}
use Rattle.dsql_history.specs.course.declared.call.Due.{Due}
use Rattle.dsql_history.specs.course.declared.call.Due.TheVariants as due
use Rattle.dsql_history.specs.course.declared.call.Got.{Got}
use Rattle.dsql_history.specs.course.Made.{Exchange, own_handle, own_cursor, has_fast_way, reads_rows, rows_are_over, ends_rows}
use Rattle.dsql_history.specs.journal.Kinds.{◌⇒◌}
use Rattle.dsql_history.proofs.journal.Conjunctions.{parts2, join2}
use Rattle.dsql_laws_tenures.specs.Orderly.{gives_cursor, gives_handle, opens_once, place, is_fetch, is_in_order}
use Rattle.dsql_laws_tenures.proofs.Numbers.{neither}
use Rattle.dsql_laws_tenures.proofs.Steps.{within}

abbrev pub is_text : Due → Bool
is_text due.Text = true
is_text _ = false

abbrev pub is_prepare : Due → Bool
is_prepare due.Prepare = true
is_prepare _ = false

abbrev pub is_free : Due → Bool
is_free (due.CloseStmt handle) = true
is_free _ = false

-- Holds if each driver call of the line has a place, and only a course that reads rows has a cursor. After a Prepare,
-- only a run of the handle gives a cursor. Only a Prepare gives a handle. The text was run only if the driver can run
-- it. If there is a cursor, the handle is closed only once its rows are over.
pub record Orderly (c : Course) (can : Caps) (made : List Exchange) : Type 0 where
  pub order : is_in_order made ≡ true
  pub once : opens_once made ≡ true
  pub placed : list_all (λ y. nat_lt 0 (place y.0)) made ≡ true
  pub reads : is_some (own_cursor made) ⇒ reads_rows c ≡ true
  pub prepared : list_any (λ y. is_prepare y.0) made ⇒ list_all (λ y. gives_cursor y ⇒ nat_lt 2 (place y.0)) made ≡ true
  pub handle : is_some (own_handle made) ⇒ list_any (λ y. is_prepare y.0) made ≡ true
  pub given : list_all (λ y. gives_handle y ⇒ is_prepare y.0) made ≡ true
  pub fast : list_any (λ y. is_text y.0) made ⇒ has_fast_way c can ≡ true
  pub closed : is_some (own_cursor made) && list_any (λ y. is_free y.0) made ⇒ rows_are_over made ≡ true

pub orderly_first : (c : Course) (can : Caps) → Orderly c can []
orderly_first c can = record { order = refl; once = refl; placed = refl; reads = refl; prepared = refl; handle = refl; given = refl; fast = refl; closed = refl }

-- A step comes after all exchanges of a lower place.
pub stands_behind : (p : ℕ) (d : Due) (made : List Exchange) → within p made ≡ true → nat_lt p (place d) ≡ true → list_all (λ y. nat_lt (place y.0) (place d) || is_fetch d && is_fetch y.0) made ≡ true
stands_behind p d [] low k = refl
stands_behind p d (y ∷ made) low k =
    let q = parts2 (nat_le (place y.0) p) (within p made) low in
    join2 (nat_lt (place y.0) (place d) || is_fetch d && is_fetch y.0) (list_all (λ x. nat_lt (place x.0) (place d) || is_fetch d && is_fetch x.0) made)
    (first (place y.0) (place d) (is_fetch d && is_fetch y.0) q.0 k) (stands_behind p d made q.1 k)
  where
    lower : (m n : ℕ) → nat_le m p ≡ true → nat_lt p n ≡ true → nat_lt m n ≡ true
    lower m n h j = grind (arith, nat_tests, h, j)

    first : (m n : ℕ) (b : Bool) → nat_le m p ≡ true → nat_lt p n ≡ true → nat_lt m n || b ≡ true
    first m n b h j = rw (lower m n h j) refl

-- A Next comes after exchanges that ended no rows, if none of them closed a handle.
pub next_behind : (rows : ℕ) (made : List Exchange) → rows_are_over made ≡ false → list_any (λ y. is_free y.0) made ≡ false → list_all (λ y. nat_lt (place y.0) 4 || is_fetch (due.Next rows) && is_fetch y.0) made ≡ true
next_behind rows [] over free = refl
next_behind rows (y ∷ made) over free =
    let p = neither (ends_rows y) (rows_are_over made) over in
    let q = neither (is_free y.0) (list_any (λ x. is_free x.0) made) free in
    join2 (nat_lt (place y.0) 4 || is_fetch (due.Next rows) && is_fetch y.0) (list_all (λ x. nat_lt (place x.0) 4 || is_fetch (due.Next rows) && is_fetch x.0) made)
    (first y.0 y.1 p.0 q.0) (next_behind rows made p.1 q.1)
  where
    first : (d : Due) (g : Got) → ends_rows (d, g) ≡ false → is_free d ≡ false → nat_lt (place d) 4 || true && is_fetch d ≡ true
    first (due.CloseRows r) g e f = absurd cc
    first (due.CloseStmt handle) g e f = absurd cc
    first _ g e f = refl

-- If nothing has a higher place than the text, nothing was sent, or only the text.
pub at_text : (made : List Exchange) → within 1 made ≡ true → list_all (λ y. nat_lt 0 (place y.0)) made ≡ true → is_in_order made ≡ true → (made ≡ []) ⊎ ((g : Got) × (made ≡ (due.Text, g) ∷ []))
at_text [] low some order = inl refl
at_text (x ∷ made) low some order =
    let l = parts2 (nat_le (place x.0) 1) (within 1 made) low in
    let s = parts2 (nat_lt 0 (place x.0)) (list_all (λ y. nat_lt 0 (place y.0)) made) some in
    let o = parts2 (is_in_order made) (list_all (λ y. nat_lt (place y.0) (place x.0) || is_fetch x.0 && is_fetch y.0) made) order in
    inr (x.1, only x.0 made (text x.0 l.0 s.0) s.1 o.1)
  where
    text : (d : Due) → nat_le (place d) 1 ≡ true → nat_lt 0 (place d) ≡ true → d ≡ due.Text
    text due.Text h k = refl
    text _ h k = absurd cc

    not_lower : (m : ℕ) → nat_lt 0 m ≡ true → nat_lt m 1 || false ≡ true → ⊥
    not_lower m h k = absurd (grind (arith, nat_tests, h, k))

    only : (d : Due) (xs : List Exchange) → d ≡ due.Text → list_all (λ y. nat_lt 0 (place y.0)) xs ≡ true → list_all (λ y. nat_lt (place y.0) (place d) || is_fetch d && is_fetch y.0) xs ≡ true
        → (d, x.1) ∷ xs ≡ (due.Text, x.1) ∷ []
    only d [] is h k = rw is refl
    only d (y ∷ xs) is h k =
        let a = parts2 (nat_lt 0 (place y.0)) (list_all (λ z. nat_lt 0 (place z.0)) xs) h in
        let b = parts2 (nat_lt (place y.0) (place d) || is_fetch d && is_fetch y.0) (list_all (λ z. nat_lt (place z.0) (place d) || is_fetch d && is_fetch z.0) xs) k in
        absurd (not_lower (place y.0) a.0 (rw is at b.0))

-- If nothing has a place above 0, nothing was sent.
pub at_start : (made : List Exchange) → within 0 made ≡ true → list_all (λ y. nat_lt 0 (place y.0)) made ≡ true → made ≡ []
at_start [] low some = refl
at_start (x ∷ made) low some =
    let l = parts2 (nat_le (place x.0) 0) (within 0 made) low in
    let s = parts2 (nat_lt 0 (place x.0)) (list_all (λ y. nat_lt 0 (place y.0)) made) some in
    absurd (not_both (place x.0) l.0 s.0)
  where
    not_both : (m : ℕ) → nat_le m 0 ≡ true → nat_lt 0 m ≡ true → ⊥
    not_both m h k = absurd (grind (arith, nat_tests, h, k))
