-- No two lines have the same cursor: each has the one that the driver gave to its own call.
use Rattle.std.proofs.Common.{◌≡◌, ℕ, Bool, true, false, ◌==◌, ◌||◌, ◌⊎◌, inl, inr, List, [], ◌∷◌, Some, refl, ap, sym, ◌∙◌, cond, ◌&&◌}
use Rattle.std.specs.List.{list_any}
use Rattle.dsql_history.specs.driver.declared.call.DriverCall.{DriverCall}
use Rattle.dsql_history.specs.driver.declared.call.DriverCall.TheVariants.{Query, Next, CloseRows}
use Rattle.dsql_history.specs.driver.declared.answer.DriverAnswer.{DriverAnswer}
use Rattle.dsql_history.specs.driver.declared.answer.DriverAnswer.TheVariants.{Cursor}
use Rattle.dsql_history.specs.driver.Fits.{fits_of}
use Rattle.dsql_history.specs.driver.Kinds.{given_cursor}
use Rattle.dsql_history.specs.course.Made.{Exchange}
use Rattle.dsql_history.specs.journal.declared.entry.Entry.{Entry}
use Rattle.dsql_history.specs.journal.Kinds.{is_number}
use Rattle.dsql_history.specs.journal.Readers.{is_empty, of_tenure, cursors_named}
use Rattle.dsql_history.specs.works.Exchanges.{step_of, with_exchange}
use Rattle.dsql_history.specs.Readers.Lines.{has_cursor, is_about}
use Rattle.dsql_laws_tenures.specs.Tenures.{made_by, IsOfTransaction}
use Rattle.dsql_laws_tenures.proofs.Numbers.{impossible, is_itself, not_none, or_later, same_number}
use Rattle.dsql_laws_tenures.proofs.Touched.{touches_cursor}
use Rattle.dsql_laws_tenures.proofs.LineSteps.{line_step}
use Rattle.dsql_laws_tenures.proofs.Entries.{Newest, newest}
use Rattle.dsql_laws_tenures.proofs.LiveCursors.{had_cursor, had_fetched, had_closed}
use Rattle.dsql_laws_tenures.proofs.CursorLines.{cursor_is_live}

or_false : (b : Bool) → b || false ≡ true → b ≡ true
or_false true h = refl
or_false false h = h

-- A line had each of its cursors before the entry, or the driver gives it to the line's call in the entry.
gained : (n r : ℕ) (number : Bool) (q : DriverCall) (a : DriverAnswer) (made : List Exchange) → fits_of q a ≡ true → number || is_about made q ≡ true → has_cursor (with_exchange (step_of q) a made) r ≡ true
    → (has_cursor made r ≡ true) ⊎ ((number ≡ true) × (given_cursor a ≡ Some r))
gained n r number q a made fit of has = by_touch (touches_cursor r q a) refl
  where
    of_touch : (p : DriverCall) (b : DriverAnswer) → fits_of p b ≡ true → number || is_about made p ≡ true → has_cursor (with_exchange (step_of p) b made) r ≡ true → touches_cursor r p b ≡ true
        → (has_cursor made r ≡ true) ⊎ ((number ≡ true) × (given_cursor b ≡ Some r))
    of_touch (Query input params) (Cursor rows columns) f o h t = inr (or_false number o, ap Some (same_number rows r t))
    of_touch (Next rows) b f o h t = inl (had_fetched r rows b made f h)
    of_touch (CloseRows rows) b f o h t = inl (had_closed r rows b made f h)
    of_touch _ b f o h t = absurd (impossible t)

    by_touch : (b : Bool) → touches_cursor r q a ≡ b → (has_cursor made r ≡ true) ⊎ ((number ≡ true) × (given_cursor a ≡ Some r))
    by_touch true is = of_touch q a fit of has is
    by_touch false is = inl (had_cursor r q a made fit is has)

gained_by : (k t n r : ℕ) (e : Entry) (J : List Entry) → Newest k t e J → has_cursor (made_by n t (e ∷ J)) r ≡ true → (has_cursor (made_by n t J) r ≡ true) ⊎ ((e.call_no ≡ n) × (given_cursor e.answer ≡ Some r))
gained_by k t n r e J s has =
    let m = s.may in
    elim (line_step n t e J) [
      | inl w ↦ inl (rw w.same at has)
      | inr w ↦
          elim (gained n r (e.call_no == n) e.call e.answer (made_by n t J) m.answer.fitting w.of_line (rw w.more at has)) [
            | inl had ↦ inl had
            | inr now ↦ inr (same_number e.call_no n now.0, now.1)
          ]
    ]

-- No line had a cursor of the number that the driver gives in the newest entry.
not_given : (k t n r : ℕ) (e : Entry) (J : List Entry) → Newest k t e J → has_cursor (made_by n t J) r ≡ true → given_cursor e.answer ≡ Some r → ⊥
not_given k t n r e J s had given =
    let m = s.may in
    let one = cursor_is_live k t n r J s.before had in
    let new : is_empty (cursors_named r J) ≡ true = rw given at m.answer.new_cursor in
    not_none (cursors_named r J) one.cursor one.only new

pub one_line : (k t n m r : ℕ) (J : List Entry) → IsOfTransaction k t J → has_cursor (made_by n t J) r ≡ true → has_cursor (made_by m t J) r ≡ true → n ≡ m
one_line k t n m r [] s has too = absurd (impossible has)
one_line k t n m r (e ∷ J) s has too =
    let w = newest k t e J s in
    elim (gained_by k t n r e J w has) [
      | inl had ↦
          elim (gained_by k t m r e J w too) [ inl also ↦ one_line k t n m r J w.before had also | inr now ↦ absurd (not_given k t n r e J w had now.1) ]
      | inr now ↦
          elim (gained_by k t m r e J w too) [ inl also ↦ absurd (not_given k t m r e J w also now.1) | inr then ↦ sym now.0 ∙ then.0 ]
    ]

-- The driver gave the cursor of a line to the line's call in that tenure.
pub given_to : (k t n r : ℕ) (J : List Entry) → IsOfTransaction k t J → has_cursor (made_by n t J) r ≡ true → list_any (λ x. (x.call_no == n) && is_number (given_cursor x.answer) r) (of_tenure t J) ≡ true
given_to k t n r [] s has = absurd (impossible has)
given_to k t n r (e ∷ J) s has =
    let w = newest k t e J s in
    let m = w.may in
    elim (line_step n t e J) [
      | inl a ↦ kept (e.tenure == t) (given_to k t n r J w.before (rw a.same at has))
      | inr h ↦
          rw h.tenure
          (elim (gained_by k t n r e J w has) [
            | inl had ↦ or_later ((e.call_no == n) && is_number (given_cursor e.answer) r) (list_any (λ x. (x.call_no == n) && is_number (given_cursor x.answer) r) (of_tenure t J)) (given_to k t n r J w.before had)
            | inr now ↦ rw (now.0, now.1) (rw (is_itself n, is_itself r) refl)
          ])
    ]
  where
    kept : (b : Bool) → list_any (λ x. (x.call_no == n) && is_number (given_cursor x.answer) r) (of_tenure t J) ≡ true
        → list_any (λ x. (x.call_no == n) && is_number (given_cursor x.answer) r) (cond b (e ∷ of_tenure t J) (of_tenure t J)) ≡ true
    kept true h = or_later ((e.call_no == n) && is_number (given_cursor e.answer) r) (list_any (λ x. (x.call_no == n) && is_number (given_cursor x.answer) r) (of_tenure t J)) h
    kept false h = h
