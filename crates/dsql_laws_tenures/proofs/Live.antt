-- If what is live is of a tenure, it still is after an entry of that tenure.
use Rattle.std.proofs.Common.{◌≡◌, ℕ, Bool, true, false, cond, not, ◌==◌, List, [], ◌∷◌, refl}
use Rattle.std.specs.List.{list_all, filter}
use Rattle.dsql_history.specs.driver.declared.answer.DriverAnswer.{DriverAnswer}
use Rattle.dsql_history.specs.driver.declared.answer.DriverAnswer.TheVariants.{Prepared, Cursor}
use Rattle.dsql_history.specs.driver.declared.call.DriverCall.{DriverCall}
use Rattle.dsql_history.specs.driver.declared.call.DriverCall.TheVariants.{Prepare, CloseStmt, Query, Next, CloseRows}
use Rattle.dsql_history.specs.journal.declared.entry.Entry.{Entry}
use Rattle.dsql_history.specs.journal.declared.entry.Owner.{Owner}
use Rattle.dsql_history.specs.journal.Kinds.{◌⇒◌}
use Rattle.dsql_history.specs.journal.Readers.{LiveHandle, LiveCursor, after_next, cursor_changed, cursors_after, handles, handles_after, of_tenure}
use Rattle.dsql_history.proofs.journal.Conjunctions.{join2, parts2}

all_kept : {X : Type 0} (f keep : X → Bool) (xs : List X) → list_all f xs ≡ true → list_all f (filter keep xs) ≡ true
all_kept f keep [] h = refl
all_kept f keep (x ∷ xs) h =
    let p = parts2 (f x) (list_all f xs) h in
    by_keep (keep x) p.0 (all_kept f keep xs p.1)
  where
    by_keep : (b : Bool) → f x ≡ true → list_all f (filter keep xs) ≡ true → list_all f (cond b (x ∷ filter keep xs) (filter keep xs)) ≡ true
    by_keep true here rest = join2 (f x) (list_all f (filter keep xs)) here rest
    by_keep false here rest = rest

all_changed : (t rows : ℕ) (a : DriverAnswer) (live : List LiveCursor) → list_all (λ x. x.tenure == t) live ≡ true → list_all (λ x. x.tenure == t) (cursor_changed rows (after_next a) live) ≡ true
all_changed t rows a [] h = refl
all_changed t rows a (x ∷ live) h =
    let p = parts2 (x.tenure == t) (list_all (λ y. y.tenure == t) live) h in
    by_number (x.number == rows) p.0 (all_changed t rows a live p.1)
  where
    by_number : (b : Bool) → (x.tenure == t) ≡ true → list_all (λ y. y.tenure == t) (cursor_changed rows (after_next a) live) ≡ true
        → list_all (λ y. y.tenure == t) (cond b (after_next a x) x ∷ cursor_changed rows (after_next a) live) ≡ true
    by_number true here rest = join2 (x.tenure == t) (list_all (λ y. y.tenure == t) (cursor_changed rows (after_next a) live)) here rest
    by_number false here rest = join2 (x.tenure == t) (list_all (λ y. y.tenure == t) (cursor_changed rows (after_next a) live)) here rest

pub cursors_there : (t : ℕ) (e : Entry) (q : DriverCall) (a : DriverAnswer) (live : List LiveCursor) → (e.tenure == t) ≡ true → list_all (λ x. x.tenure == t) live ≡ true
    → list_all (λ x. x.tenure == t) (cursors_after e q a live) ≡ true
cursors_there t e (Query input params) (Cursor rows columns) live at h = join2 (e.tenure == t) (list_all (λ x. x.tenure == t) live) at h
cursors_there t e (Next rows) a live at h = all_changed t rows a live h
cursors_there t e (CloseRows rows) a live at h = all_kept (λ x. x.tenure == t) (λ x. not (x.number == rows)) live h
cursors_there t e _ _ live at h = h

pub handles_there : (t : ℕ) (e : Entry) (q : DriverCall) (a : DriverAnswer) (live : List LiveHandle) → (e.tenure == t) ≡ true → list_all (λ x. x.tenure == t) live ≡ true
    → list_all (λ x. x.tenure == t) (handles_after e q a live) ≡ true
handles_there t e (Prepare text) (Prepared handle inputs) live at h = join2 (e.tenure == t) (list_all (λ x. x.tenure == t) live) at h
handles_there t e (CloseStmt handle) a live at h = all_kept (λ x. x.tenure == t) (λ x. not (x.number == handle)) live h
handles_there t e _ _ live at h = h

-- The handles that are live in a tenure have the owner of the tenure.

owned_after : (own : Owner → Bool) (t : ℕ) (e : Entry) (q : DriverCall) (a : DriverAnswer) (live : List LiveHandle) → (e.tenure == t) ⇒ own e.owner ≡ true
    → list_all (λ x. (x.tenure == t) ⇒ own x.owner) live ≡ true → list_all (λ x. (x.tenure == t) ⇒ own x.owner) (handles_after e q a live) ≡ true
owned_after own t e (Prepare text) (Prepared handle inputs) live here h = join2 ((e.tenure == t) ⇒ own e.owner) (list_all (λ x. (x.tenure == t) ⇒ own x.owner) live) here h
owned_after own t e (CloseStmt handle) a live here h = all_kept (λ x. (x.tenure == t) ⇒ own x.owner) (λ x. not (x.number == handle)) live h
owned_after own t e _ _ live here h = h

pub owned_there : (own : Owner → Bool) (t : ℕ) (J : List Entry) → list_all (λ x. own x.owner) (of_tenure t J) ≡ true → list_all (λ x. (x.tenure == t) ⇒ own x.owner) (handles J) ≡ true
owned_there own t [] h = refl
owned_there own t (e ∷ J) h =
    let p = by_tenure (e.tenure == t) h in
    owned_after own t e e.call e.answer (handles J) p.0 (owned_there own t J p.1)
  where
    by_tenure : (b : Bool) → list_all (λ x. own x.owner) (cond b (e ∷ of_tenure t J) (of_tenure t J)) ≡ true → (b ⇒ own e.owner ≡ true) × (list_all (λ x. own x.owner) (of_tenure t J) ≡ true)
    by_tenure true k = parts2 (own e.owner) (list_all (λ x. own x.owner) (of_tenure t J)) k
    by_tenure false k = (refl, k)
