-- Which entries change what is live under a number.
use Rattle.std.proofs.Common.{◌≡◌, ℕ, Bool, true, false, cond, not, ◌==◌, List, [], ◌∷◌, refl}
use Rattle.std.specs.List.{filter}
use native.Mathlib.Omega.{arith}
use Rattle.std.proofs.lemmas.Bool.Decides.{nat_tests}
use Rattle.dsql_history.specs.driver.declared.call.DriverCall.{DriverCall}
use Rattle.dsql_history.specs.driver.declared.call.DriverCall.TheVariants.{Prepare, CloseStmt, Query, Next, CloseRows}
use Rattle.dsql_history.specs.driver.declared.answer.DriverAnswer.{DriverAnswer}
use Rattle.dsql_history.specs.driver.declared.answer.DriverAnswer.TheVariants.{Prepared, Cursor}
use Rattle.dsql_history.specs.journal.declared.entry.Entry.{Entry}
use Rattle.dsql_history.specs.journal.Readers.{LiveHandle, LiveCursor, handles_after, cursors_after, cursor_changed, after_next}

-- Is true if the driver call opens the cursor, fetches from it or closes it.
abbrev pub touches_cursor : ℕ → DriverCall → DriverAnswer → Bool
touches_cursor r (Query input params) (Cursor rows columns) = rows == r
touches_cursor r (Next rows) answer = rows == r
touches_cursor r (CloseRows rows) answer = rows == r
touches_cursor r _ answer = false

-- Is true if the driver call prepares the handle or closes it.
abbrev pub touches_handle : ℕ → DriverCall → DriverAnswer → Bool
touches_handle n (Prepare text) (Prepared handle inputs) = handle == n
touches_handle n (CloseStmt handle) answer = handle == n
touches_handle n _ answer = false

abbrev pub named : ℕ → List LiveCursor → List LiveCursor
named r live = filter (λ c. c.number == r) live

abbrev pub prepared : ℕ → List LiveHandle → List LiveHandle
prepared n live = filter (λ h. h.number == n) live

is_off : (a r s : ℕ) → (s == r) ≡ false → (a == s) ≡ true → (a == r) ≡ false
is_off a r s h is = grind (arith, nat_tests)

changed-other : (r s : ℕ) (f : LiveCursor → LiveCursor) → ((c : LiveCursor) → (f c).number ≡ c.number) → (live : List LiveCursor) → (s == r) ≡ false → named r (cursor_changed s f live) ≡ named r live
changed-other r s f keeps [] h = refl
changed-other r s f keeps (c ∷ cs) h = by_it (c.number == s) refl (changed-other r s f keeps cs h)
  where
    by_it : (b : Bool) → (c.number == s) ≡ b → named r (cursor_changed s f cs) ≡ named r cs
        → cond ((cond b (f c) c).number == r) (cond b (f c) c ∷ named r (cursor_changed s f cs)) (named r (cursor_changed s f cs)) ≡ cond (c.number == r) (c ∷ named r cs) (named r cs)
    by_it true is rest = rw (keeps c, is_off c.number r s h is, rest) refl
    by_it false is rest = rw rest refl

closed-other : (r s : ℕ) (live : List LiveCursor) → (s == r) ≡ false → named r (filter (λ c. not (c.number == s)) live) ≡ named r live
closed-other r s [] h = refl
closed-other r s (c ∷ cs) h = by_it (c.number == s) refl (closed-other r s cs h)
  where
    by_it : (b : Bool) → (c.number == s) ≡ b → named r (filter (λ x. not (x.number == s)) cs) ≡ named r cs
        → named r (cond (not b) (c ∷ filter (λ x. not (x.number == s)) cs) (filter (λ x. not (x.number == s)) cs)) ≡ cond (c.number == r) (c ∷ named r cs) (named r cs)
    by_it true is rest = rw (is_off c.number r s h is) rest
    by_it false is rest = rw rest refl

-- What an entry doesn't touch stays as it is.
pub untouched-cursor : (r : ℕ) (e : Entry) (q : DriverCall) (a : DriverAnswer) (live : List LiveCursor) → touches_cursor r q a ≡ false → named r (cursors_after e q a live) ≡ named r live
untouched-cursor r e (Query input params) (Cursor rows columns) live h = rw h refl
untouched-cursor r e (Next rows) a live h = changed-other r rows (after_next a) (λ c. refl) live h
untouched-cursor r e (CloseRows rows) a live h = closed-other r rows live h
untouched-cursor r e _ _ live h = refl

handle-other : (n m : ℕ) (live : List LiveHandle) → (m == n) ≡ false → prepared n (filter (λ h. not (h.number == m)) live) ≡ prepared n live
handle-other n m [] h = refl
handle-other n m (c ∷ cs) h = by_it (c.number == m) refl (handle-other n m cs h)
  where
    by_it : (b : Bool) → (c.number == m) ≡ b → prepared n (filter (λ x. not (x.number == m)) cs) ≡ prepared n cs
        → prepared n (cond (not b) (c ∷ filter (λ x. not (x.number == m)) cs) (filter (λ x. not (x.number == m)) cs)) ≡ cond (c.number == n) (c ∷ prepared n cs) (prepared n cs)
    by_it true is rest = rw (is_off c.number n m h is) rest
    by_it false is rest = rw rest refl

pub untouched-handle : (n : ℕ) (e : Entry) (q : DriverCall) (a : DriverAnswer) (live : List LiveHandle) → touches_handle n q a ≡ false → prepared n (handles_after e q a live) ≡ prepared n live
untouched-handle n e (Prepare text) (Prepared handle inputs) live h = rw h refl
untouched-handle n e (CloseStmt handle) a live h = handle-other n handle live h
untouched-handle n e _ _ live h = refl
