-- Answers at their place, and the part of an answer that decides the order of calls.
use Rattle.std.proofs.Common.{◌≡◌, ℕ, Bool, true, false, not, ◌&&◌, ◌||◌, ◌==◌, Some, List, [], ◌∷◌, refl, sym, ◌∙◌, ap}
use Rattle.std.specs.List.{filter, list_all, list_any}
use Rattle.dsql_driver.specs.declared.answer.DriverAnswer.{DriverAnswer}
use Rattle.dsql_driver.specs.declared.answer.DriverAnswer.TheVariants.{Done, Prepared, Result, Cursor, Row, End, Invalid, Skip, Bad, Fail, Memory}
use Rattle.dsql_tenure_journal.specs.declared.entry.Entry.{Entry}
use Rattle.dsql_tenure_journal.specs.declared.entry.Owner.{Owner}
use Rattle.dsql_tenure_journal.specs.declared.entry.Owner.TheVariants.{Call, Tx, Pin, House}
use Rattle.dsql_tenure_journal.specs.Tenure.{keeps_body}
use Rattle.dsql_tenure_journal.specs.Kinds.{if_any}
use Rattle.dsql_driver.specs.Kinds.{given_handle, given_cursor, cursor_of}
use Rattle.dsql_tenure_journal.specs.Readers.{LiveHandle, LiveCursor, is_empty, handles, cursors}
use Rattle.dsql_tenure_journal.specs.HandlesAndCursors.{has_width_of_cursor}
use Rattle.dsql_tenure_journal.specs.HandlesAndCursors as rule
use Rattle.dsql_tenure_asked.specs.declared.live.Handle.{Handle}
use Rattle.dsql_tenure_asked.specs.declared.live.Cursor as kept
use Rattle.dsql_tenure.specs.declared.tables.Tables.{Tables}
use Rattle.dsql_tenure_asked.specs.Asked.{answer_like, outcome_of}
use Rattle.dsql_tenure.specs.MayBeAsked.{may_be_asked, is_as_wide}
use Rattle.dsql_tenure.specs.Tables.{past, kept_handle, kept_cursor, Stands}
use Rattle.dsql_tenure.proofs.Keeping.{keeps_of}
use Rattle.dsql_tenure.proofs.Lists.{list_all-map, list_any-map, list_all-filter, list_all-same, is_empty-filter}

-- Returns the entry with an answer that differs in its contents alone.
abbrev pub like : Entry → Entry
like entry = record entry { answer = answer_like (outcome_of entry.answer) }

body-answer : (o : Owner) (before : List Entry) (e : Entry) (a : DriverAnswer)
    → keeps_body o before (record e { answer = a }) ≡ keeps_body o before (record e { answer = answer_like (outcome_of a) })
body-answer (Call m) before e (Prepared h n) = refl
body-answer (Tx m) before e (Prepared h n) = refl
body-answer (Pin m) before e (Prepared h n) = refl
body-answer House before e (Prepared h n) = refl
body-answer (Call m) before e (Result l n) = refl
body-answer (Tx m) before e (Result l n) = refl
body-answer (Pin m) before e (Result l n) = refl
body-answer House before e (Result l n) = refl
body-answer (Call m) before e (Cursor r c) = refl
body-answer (Tx m) before e (Cursor r c) = refl
body-answer (Pin m) before e (Cursor r c) = refl
body-answer House before e (Cursor r c) = refl
body-answer (Call m) before e (Row v) = refl
body-answer (Tx m) before e (Row v) = refl
body-answer (Pin m) before e (Row v) = refl
body-answer House before e (Row v) = refl
body-answer (Call m) before e Invalid = refl
body-answer (Tx m) before e Invalid = refl
body-answer (Pin m) before e Invalid = refl
body-answer House before e Invalid = refl
body-answer (Call m) before e Skip = refl
body-answer (Tx m) before e Skip = refl
body-answer (Pin m) before e Skip = refl
body-answer House before e Skip = refl
body-answer (Call m) before e (Fail t) = refl
body-answer (Tx m) before e (Fail t) = refl
body-answer (Pin m) before e (Fail t) = refl
body-answer House before e (Fail t) = refl
body-answer (Call m) before e Memory = refl
body-answer (Tx m) before e Memory = refl
body-answer (Pin m) before e Memory = refl
body-answer House before e Memory = refl
body-answer o before e Done = refl
body-answer o before e End = refl
body-answer o before e Bad = refl

may_be_asked-answer : (before : List Entry) (e : Entry) (a : DriverAnswer)
    → may_be_asked before (record e { answer = a }) ≡ may_be_asked before (record e { answer = answer_like (outcome_of a) })
may_be_asked-answer before e Done = refl
may_be_asked-answer before e End = refl
may_be_asked-answer before e Bad = refl
may_be_asked-answer before e x = rw (body-answer e.owner before e x) refl

-- Whether a call may be asked depends on no more of an answer.
pub may_be_asked-like : (before : List Entry) (e : Entry) → may_be_asked before e ≡ may_be_asked before (like e)
may_be_asked-like before e = may_be_asked-answer before e e.answer

pub all_wide : (a : DriverAnswer) (n : ℕ) (cs : List kept.Cursor) → ((v : List _) → a ≡ Row v → ⊥) → true ≡ list_all (λ c. not (c.number == n) || is_as_wide a c) cs
all_wide a n [] other = refl
all_wide a n (c ∷ cs) other = rw (← all_wide a n cs other) (go a other (not (c.number == n)))
  where
    go : (a : DriverAnswer) → ((v : List _) → a ≡ Row v → ⊥) → (b : Bool) → true ≡ ((b || is_as_wide a c) && true)
    go (Row v) other b = absurd (other v refl)
    go _ other true = refl
    go _ other false = refl

module _ (t : Tables) (s : Stands t) where
  pub no_handle : (a : DriverAnswer) (n : ℕ) → given_handle a ≡ Some n → not (list_any (λ h. h.number == n) t.handles.items) ≡ if_any (given_handle a) (λ m. is_empty (filter (λ h. h.number == m) (handles (past t))))
  no_handle a n gives =
      ap (λ (hs : List Handle). not (list_any (λ h. h.number == n) hs)) (keeps_of t s).handles
      ∙ ap not (list_any-map (λ (h : Handle). h.number == n) kept_handle (handles (past t)))
      ∙ sym (is_empty-filter (λ (h : LiveHandle). h.number == n) (handles (past t)))
      ∙ sym (ap (λ o. if_any o (λ m. is_empty (filter (λ h. h.number == m) (handles (past t))))) gives)

  pub no_cursor : (a : DriverAnswer) (n : ℕ) → given_cursor a ≡ Some n → not (list_any (λ c. c.number == n) t.cursors.items) ≡ if_any (given_cursor a) (λ m. is_empty (filter (λ c. c.number == m) (cursors (past t))))
  no_cursor a n gives =
      ap (λ (cs : List kept.Cursor). not (list_any (λ c. c.number == n) cs)) (keeps_of t s).cursors
      ∙ ap not (list_any-map (λ (c : kept.Cursor). c.number == n) kept_cursor (cursors (past t)))
      ∙ sym (is_empty-filter (λ (c : LiveCursor). c.number == n) (cursors (past t)))
      ∙ sym (ap (λ o. if_any o (λ m. is_empty (filter (λ c. c.number == m) (cursors (past t))))) gives)

  wide_kept : (a : DriverAnswer) (c : LiveCursor) → is_as_wide a (kept_cursor c) ≡ rule.is_as_wide a c
  wide_kept (Row v) c = refl
  wide_kept _ c = refl

  pub width : (e : Entry) (n : ℕ) → cursor_of e.call ≡ Some n → list_all (λ c. not (c.number == n) || is_as_wide e.answer c) t.cursors.items ≡ has_width_of_cursor (past t) e
  width e n names =
      ap (λ (cs : List kept.Cursor). list_all (λ c. not (c.number == n) || is_as_wide e.answer c) cs) (keeps_of t s).cursors
      ∙ list_all-map (λ (c : kept.Cursor). not (c.number == n) || is_as_wide e.answer c) kept_cursor (cursors (past t))
      ∙ list_all-same (λ c. not (c.number == n) || is_as_wide e.answer (kept_cursor c)) (λ c. not (c.number == n) || rule.is_as_wide e.answer c) (λ c. ap (λ b. not (c.number == n) || b) (wide_kept e.answer c)) (cursors (past t))
      ∙ sym (list_all-filter (rule.is_as_wide e.answer) (λ c. c.number == n) (cursors (past t)))
      ∙ sym (ap (λ o. if_any o (λ m. list_all (rule.is_as_wide e.answer) (filter (λ c. c.number == m) (cursors (past t))))) names)
