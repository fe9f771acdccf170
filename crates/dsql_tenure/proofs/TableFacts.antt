-- What the tables say of the journal.
use Rattle.std.proofs.Common.{◌≡◌, ℕ, ◌<◌, ◌≤◌, ◌&&◌, Bool, true, false, not, ◌||◌, ◌==◌, Option, Some, List, [], ◌∷◌, length, refl, sym, ◌∙◌, ap, is_some}
use Rattle.std.specs.List.{list_all}
use native.Mathlib.Omega.{arith}
use Rattle.std.proofs.lemmas.Bool.Decides.{nat_tests}
use Rattle.dsql_tenure_journal.specs.declared.entry.Entry.{Entry}
use Rattle.dsql_tenure_journal.specs.Kinds.{◌⇒◌, if_any, is_call}
use Rattle.dsql_driver.specs.Kinds.{is_close_stmt, handle_of}
use Rattle.dsql_tenure_journal.specs.Readers.{LiveHandle, LiveCursor, is_empty, handles, cursors, has, begun, of_tenure, last_tenure, went_bad}
use Rattle.dsql_tenure_journal.specs.Tenure.{has_ended_transactions, has_closed_cursors, has_closed_handles, is_whole_tenure}
use Rattle.dsql_tenure_journal.proofs.Tenures.{of_tenure-new}
use Rattle.dsql_tenure_asked.specs.declared.live.Handle.{Handle}
use Rattle.dsql_tenure_asked.specs.declared.live.Cursor.{Cursor}
use Rattle.dsql_tenure.specs.declared.tables.Tables.{Tables}
use Rattle.dsql_tenure.specs.TenureParts.{closes_own}
use Rattle.dsql_tenure.specs.Tables.{past, kept_handle, kept_cursor, Stands}
use Rattle.dsql_tenure.proofs.Keeping.{keeps_of}
use Rattle.dsql_tenure.proofs.Lists.{list_all-map, list_all-same}
use Rattle.dsql_tenure.proofs.Groups.{bad_tenure-some}
use Rattle.dsql_tenure.proofs.Places.{has_ended-last, later_or_last}

none-empty : {X : Type 0} (xs : List X) → (length xs == 0) ≡ is_empty xs
none-empty [] = refl
none-empty (x ∷ xs) = grind (arith, nat_tests)

or_of : (a b : Bool) → (not a || b) ≡ (a ⇒ b)
or_of true b = refl
or_of false b = refl

module _ (t : Tables) (s : Stands t) where
  pub bad_is : is_some t.bad_tenure ≡ went_bad (past t)
  bad_is = ap (λ (o : Option ℕ). is_some o) (keeps_of t s).bad_tenure ∙ bad_tenure-some (past t)

  pub closed_cursors : (n : ℕ) → list_all (λ c. not (c.tenure == n)) t.cursors.items ≡ has_closed_cursors n (past t)
  closed_cursors n =
      ap (λ (cs : List Cursor). list_all (λ c. not (c.tenure == n)) cs) (keeps_of t s).cursors
      ∙ list_all-map (λ (c : Cursor). not (c.tenure == n)) kept_cursor (cursors (past t))

  closed_handles : (n : ℕ) → list_all (λ h. not (h.tenure == n) || is_call h.owner) t.handles.items ≡ has_closed_handles n (past t)
  closed_handles n =
      ap (λ (hs : List Handle). list_all (λ h. not (h.tenure == n) || is_call h.owner) hs) (keeps_of t s).handles
      ∙ list_all-map (λ (h : Handle). not (h.tenure == n) || is_call h.owner) kept_handle (handles (past t))
      ∙ list_all-same (λ h. not (h.tenure == n) || is_call h.owner) (λ h. (h.tenure == n) ⇒ is_call h.owner) (λ h. or_of (h.tenure == n) (is_call h.owner)) (handles (past t))

  ended_last : is_empty t.unended.items ≡ has_ended_transactions t.tenure (past t)
  ended_last =
      ap (λ (ns : List ℕ). is_empty ns) (keeps_of t s).unended
      ∙ sym (has_ended-last (past t) (keeps_of t s).prefix)
      ∙ ap (λ n. has_ended_transactions n (past t)) (sym (keeps_of t s).tenure)

  ended_new : (n : ℕ) → last_tenure (past t) < n → has_ended_transactions n (past t) ≡ true
  ended_new n above =
      ap (λ (xs : List Entry). list_all (λ m. has m (Rattle.dsql_tenure_journal.specs.Readers.ended (past t))) (begun xs)) (of_tenure-new n (past t) (keeps_of t s).prefix above)

  ended : (n : ℕ) → last_tenure (past t) ≤ n → (not (n == t.tenure) || (length t.unended.items == 0)) ≡ has_ended_transactions n (past t)
  ended n from =
      later_or_last ((not (n == t.tenure) || (length t.unended.items == 0)) ≡ has_ended_transactions n (past t)) (last_tenure (past t)) n
      (λ above.
      let other : (n == t.tenure) ≡ false = grind (arith, nat_tests, (keeps_of t s).tenure, above) in
      let later : last_tenure (past t) < n = grind (arith, nat_tests, above) in
      rw other (sym (ended_new n later)))
      (λ same.
      let this : (n == t.tenure) ≡ true = grind (arith, nat_tests, (keeps_of t s).tenure, same) in
      rw this (none-empty t.unended.items ∙ ended_last ∙ ap (λ m. has_ended_transactions m (past t)) ((keeps_of t s).tenure ∙ sym same)))
      (grind (arith, nat_tests, from))

  pub left_whole : (n : ℕ) → last_tenure (past t) ≤ n
      → ((not (n == t.tenure) || (length t.unended.items == 0))
      && (went_bad (past t) || (list_all (λ c. not (c.tenure == n)) t.cursors.items && list_all (λ h. not (h.tenure == n) || is_call h.owner) t.handles.items)))
      ≡ is_whole_tenure n (past t)
  left_whole n from = rw (ended n from, closed_cursors n, closed_handles n) refl

  pub closes_own_by : (e : Entry) (n : ℕ) → is_close_stmt e.call ≡ true → handle_of e.call ≡ Some n
      → list_all (λ h. not (h.number == n) || (h.tenure == e.tenure)) t.handles.items ≡ closes_own (past t) e
  closes_own_by e n closes names =
      ap (λ (hs : List Handle). list_all (λ h. not (h.number == n) || (h.tenure == e.tenure)) hs) (keeps_of t s).handles
      ∙ list_all-map (λ (h : Handle). not (h.number == n) || (h.tenure == e.tenure)) kept_handle (handles (past t))
      ∙ sym (ap (λ b. b ⇒ if_any (handle_of e.call) (λ m. list_all (λ h. not (h.number == m) || (h.tenure == e.tenure)) (handles (past t)))) closes
      ∙ ap (λ o. if_any o (λ m. list_all (λ h. not (h.number == m) || (h.tenure == e.tenure)) (handles (past t)))) names)

  pub no_cursor_of : (n : ℕ) → list_all (λ c. not (c.tx == n)) t.cursors.items ≡ list_all (λ c. not (c.tx == n)) (cursors (past t))
  no_cursor_of n =
      ap (λ (cs : List Cursor). list_all (λ c. not (c.tx == n)) cs) (keeps_of t s).cursors
      ∙ list_all-map (λ (c : Cursor). not (c.tx == n)) kept_cursor (cursors (past t))
