-- The handles and cursors that are live in a journal are found on its wire: searches of one list are carried
-- over to the other.
use Rattle.std.proofs.Common.{◌≡◌, ℕ, Bool, true, false, not, ◌&&◌, ◌||◌, ◌==◌, List, [], ◌∷◌, refl, sym, ◌∙◌, ap}
use Rattle.std.specs.List.{filter, list_any, list_all}
use Rattle.std.proofs.lemmas.Bool.Decides.{nat_tests}
use native.Mathlib.Omega.{arith}
use Rattle.dsql_driver.specs.Wires as wires
use Rattle.dsql_driver.specs.Wires.{has_number, has_width}
use Rattle.dsql_tenure_journal.specs.Readers.{is_empty, LiveHandle, LiveCursor}
use Rattle.dsql_tenure_journal.proofs.Conjunctions.{parts2}
use Rattle.dsql_tenure.proofs.Lists.{is_empty-filter, list_all-filter, list_all-so, list_all-none, list_any-so, list_any-both}
use Rattle.dsql_wire.specs.Journaled.{has_handles, has_cursor, has_cursors}

-- Two numbers differ if a test passes for one and fails for the other.
pub differs : (f : ℕ → Bool) (m n : ℕ) → f m ≡ true → f n ≡ false → not (m == n) ≡ true
differs f m n here there = go (m == n) refl
  where
    go : (b : Bool) → (m == n) ≡ b → not b ≡ true
    go true is =
        let e : m ≡ n = grind (arith, nat_tests, is) in
        let clash : true ≡ false = sym here ∙ ap f e ∙ there in
        absurd cc
    go false is = refl

-- A flag is true if some element passes a test and each element that passes makes the flag true.
pub any_tells : {X : Type 0} (p : X → Bool) (b : Bool) → ((x : X) → p x ≡ true → b ≡ true) → (xs : List X) → list_any p xs ≡ true → b ≡ true
any_tells p b tells [] h = let clash : false ≡ true = h in absurd cc
any_tells p b tells (x ∷ xs) h = go (p x) refl h (any_tells p b tells xs)
  where
    go : (c : Bool) → p x ≡ c → (c || list_any p xs) ≡ true → (list_any p xs ≡ true → b ≡ true) → b ≡ true
    go true is h more = tells x is
    go false is h more = more h

-- A number that isn't live on the wire isn't live in the journal.
pub no_handle : (n : ℕ) (on : List ℕ) (live : List LiveHandle) → has_number n on ≡ false → has_handles on live ≡ true → is_empty (filter (λ h. h.number == n) live) ≡ true
no_handle n on live none all =
    is_empty-filter (λ (h : LiveHandle). h.number == n) live
    ∙ sym (list_all-none (λ (h : LiveHandle). h.number == n) live)
    ∙ list_all-so (λ (h : LiveHandle). has_number h.number on) (λ (h : LiveHandle). not (h.number == n)) (λ h on_it. differs (λ k. has_number k on) h.number n on_it none) live all

-- A cursor that is live on the wire is also found there by its number alone.
pub cursor_on : (on : List wires.LiveCursor) (c : LiveCursor) → has_cursor on c ≡ true → wires.has_cursor c.number on ≡ true
cursor_on on c h = list_any-so (λ (w : wires.LiveCursor). (w.0 == c.number) && (w.1 == c.columns)) (λ (w : wires.LiveCursor). w.0 == c.number) (λ w both. (parts2 (w.0 == c.number) (w.1 == c.columns) both).0) on h

pub no_cursor : (n : ℕ) (on : List wires.LiveCursor) (live : List LiveCursor) → wires.has_cursor n on ≡ false → has_cursors on live ≡ true → is_empty (filter (λ c. c.number == n) live) ≡ true
no_cursor n on live none all =
    is_empty-filter (λ (c : LiveCursor). c.number == n) live
    ∙ sym (list_all-none (λ (c : LiveCursor). c.number == n) live)
    ∙ list_all-so (has_cursor on) (λ (c : LiveCursor). not (c.number == n)) (λ c on_it. differs (λ k. wires.has_cursor k on) c.number n (cursor_on on c on_it) none) live all

-- A cursor has the same number of columns in the journal as on the wire.
width_of_one : (a b n k rows width : ℕ) → ((a == n) && (b == k)) && (not (a == rows) || (b == width)) ≡ true → (not (n == rows) || (k == width)) ≡ true
width_of_one a b n k rows width h =
    let p : ((a == n) && (b == k) ≡ true) × ((not (a == rows) || (b == width)) ≡ true) = parts2 ((a == n) && (b == k)) (not (a == rows) || (b == width)) h in
    let q : ((a == n) ≡ true) × ((b == k) ≡ true) = parts2 (a == n) (b == k) p.0 in
    let s : a ≡ n = grind (arith, nat_tests, q.0) in
    let t : b ≡ k = grind (arith, nat_tests, q.1) in
    rw (← s, ← t) p.1

width_on : (rows width : ℕ) (on : List wires.LiveCursor) (c : LiveCursor) → has_width rows width on ≡ true → has_cursor on c ≡ true → (not (c.number == rows) || (c.columns == width)) ≡ true
width_on rows width on c wide h =
    let p : wires.LiveCursor → Bool = λ w. (w.0 == c.number) && (w.1 == c.columns) in
    let q : wires.LiveCursor → Bool = λ w. not (w.0 == rows) || (w.1 == width) in
    any_tells (λ (w : wires.LiveCursor). ((w.0 == c.number) && (w.1 == c.columns)) && (not (w.0 == rows) || (w.1 == width))) (not (c.number == rows) || (c.columns == width))
    (λ w both. width_of_one w.0 w.1 c.number c.columns rows width both) on
    (list_any-both p q on h wide)

-- A row that is as wide as the wire's cursor is as wide as the journal's cursor.
pub as_wide : (rows width : ℕ) (on : List wires.LiveCursor) (live : List LiveCursor) → has_width rows width on ≡ true → has_cursors on live ≡ true
    → list_all (λ c. c.columns == width) (filter (λ c. c.number == rows) live) ≡ true
as_wide rows width on live wide all =
    list_all-filter (λ (c : LiveCursor). c.columns == width) (λ (c : LiveCursor). c.number == rows) live
    ∙ list_all-so (has_cursor on) (λ (c : LiveCursor). not (c.number == rows) || (c.columns == width)) (λ c on_it. width_on rows width on c wide on_it) live all
