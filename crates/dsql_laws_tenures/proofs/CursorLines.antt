-- By induction over the journal: the cursor that a call's line has is live.
use Rattle.std.proofs.Common.{◌≡◌, ℕ, Bool, true, false, inl, inr, List, [], ◌∷◌, refl, ◌∙◌}
use Rattle.dsql_history.specs.journal.declared.entry.Entry.{Entry}
use Rattle.dsql_history.specs.journal.Readers.{cursors}
use Rattle.dsql_history.specs.Readers.Lines.{has_cursor}
use Rattle.dsql_laws_tenures.specs.Tenures.{made_by, IsOfTransaction, HasLiveCursor}
use Rattle.dsql_laws_tenures.proofs.Numbers.{impossible}
use Rattle.dsql_laws_tenures.proofs.Touched.{touches_cursor, untouched-cursor}
use Rattle.dsql_laws_tenures.proofs.LineSteps.{line_step}
use Rattle.dsql_laws_tenures.proofs.Entries.{Newest, newest, tx_of_work}
use Rattle.dsql_laws_tenures.proofs.LiveCursors.{OneLive, Comes, touching, had_cursor, unended}

comes : (k t n : ℕ) (e : Entry) (J : List Entry) → Newest k t e J → Comes k t e e.call e.answer (cursors J) (made_by n t J) (made_by n t (e ∷ J))
comes k t n e J s =
    let m = s.may in
    record {
      fit = m.answer.fitting;
      new = m.answer.new_cursor;
      in_tenure = m.handles.cursor_tenure;
      line = elim (line_step n t e J) [ inl w ↦ inl (w.same, w.not_about) | inr w ↦ inr (w.more, w.tenure) ];
      tx = tx_of_work k t e J s;
    }

one_more : (k t n r : ℕ) (e : Entry) (J : List Entry) → Newest k t e J → (has_cursor (made_by n t J) r ≡ true → OneLive k t r (made_by n t J) (cursors J)) → has_cursor (made_by n t (e ∷ J)) r ≡ true
    → OneLive k t r (made_by n t (e ∷ J)) (cursors (e ∷ J))
one_more k t n r e J s one has = by_touch (touches_cursor r e.call e.answer) refl
  where
    by_touch : (b : Bool) → touches_cursor r e.call e.answer ≡ b → OneLive k t r (made_by n t (e ∷ J)) (cursors (e ∷ J))
    by_touch true is = touching k t r e e.call e.answer (cursors J) (made_by n t J) (made_by n t (e ∷ J)) (comes k t n e J s) one is has
    by_touch false is =
        let m = s.may in
        elim (line_step n t e J) [
          | inl w ↦
              let o = one (rw w.same at has) in
              record {
                cursor = o.cursor;
                only = untouched-cursor r e e.call e.answer (cursors J) is ∙ o.only;
                tenure = o.tenure;
                tx = o.tx;
                not_over = rw w.same o.not_over;
              }
          | inr w ↦
              let o = one (had_cursor r e.call e.answer (made_by n t J) m.answer.fitting is (rw w.more at has)) in
              record {
                cursor = o.cursor;
                only = untouched-cursor r e e.call e.answer (cursors J) is ∙ o.only;
                tenure = o.tenure;
                tx = o.tx;
                not_over = rw w.more (λ unread. o.not_over (unended e.call e.answer (made_by n t J) unread));
              }
        ]

one_live : (k t n r : ℕ) (J : List Entry) → IsOfTransaction k t J → has_cursor (made_by n t J) r ≡ true → OneLive k t r (made_by n t J) (cursors J)
one_live k t n r [] s has = absurd (impossible has)
one_live k t n r (e ∷ J) s has =
    let w = newest k t e J s in
    one_more k t n r e J w (λ had. one_live k t n r J w.before had) has

pub cursor_is_live : (k t n r : ℕ) (J : List Entry) → IsOfTransaction k t J → has_cursor (made_by n t J) r ≡ true → HasLiveCursor k t r (made_by n t J) J
cursor_is_live k t n r J s has =
    let o = one_live k t n r J s has in
    record { cursor = o.cursor; only = o.only; tenure = o.tenure; tx = o.tx; not_over = o.not_over }
