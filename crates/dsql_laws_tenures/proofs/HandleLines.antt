-- By induction over the journal: the handle that a call's line has is live.
use Rattle.std.proofs.Common.{◌≡◌, ℕ, Bool, true, false, inl, inr, List, [], ◌∷◌, refl, ◌∙◌}
use Rattle.dsql_history.specs.journal.declared.entry.Entry.{Entry}
use Rattle.dsql_history.specs.journal.Readers.{handles}
use Rattle.dsql_history.specs.Readers.Lines.{has_handle}
use Rattle.dsql_laws_tenures.specs.Tenures.{made_by, IsOfTransaction, HasLiveHandle}
use Rattle.dsql_laws_tenures.proofs.Numbers.{impossible}
use Rattle.dsql_laws_tenures.proofs.Touched.{touches_handle, untouched-handle}
use Rattle.dsql_laws_tenures.proofs.LineSteps.{line_step}
use Rattle.dsql_laws_tenures.proofs.Entries.{Newest, newest, tx_of_work}
use Rattle.dsql_laws_tenures.proofs.LiveHandles.{OneLive, Comes, touching, had_handle}

comes : (k t n : ℕ) (e : Entry) (J : List Entry) → Newest k t e J → Comes k t e e.call e.answer (handles J) (made_by n t J) (made_by n t (e ∷ J))
comes k t n e J s =
    let m = s.may in
    record {
      fit = m.answer.fitting;
      new = m.answer.new_handle;
      in_tenure = m.handles.handle_tenure;
      line = elim (line_step n t e J) [ inl w ↦ inl (w.same, w.not_about) | inr w ↦ inr (w.more, w.tenure) ];
      tx = tx_of_work k t e J s;
      owner = s.owner;
    }

one_more : (k t n m : ℕ) (e : Entry) (J : List Entry) → Newest k t e J → (has_handle (made_by n t J) m ≡ true → OneLive k t m (handles J)) → has_handle (made_by n t (e ∷ J)) m ≡ true
    → OneLive k t m (handles (e ∷ J))
one_more k t n m e J s one has = by_touch (touches_handle m e.call e.answer) refl
  where
    still : touches_handle m e.call e.answer ≡ false → OneLive k t m (handles J) → OneLive k t m (handles (e ∷ J))
    still is o =
        record { handle = o.handle; only = untouched-handle m e e.call e.answer (handles J) is ∙ o.only; tenure = o.tenure; owner = o.owner; tx = o.tx }

    by_touch : (b : Bool) → touches_handle m e.call e.answer ≡ b → OneLive k t m (handles (e ∷ J))
    by_touch true is = touching k t m e e.call e.answer (handles J) (made_by n t J) (made_by n t (e ∷ J)) (comes k t n e J s) one is has
    by_touch false is =
        let may = s.may in
        elim (line_step n t e J) [
          | inl w ↦ still is (one (rw w.same at has))
          | inr w ↦ still is (one (had_handle m e.call e.answer (made_by n t J) may.answer.fitting is (rw w.more at has)))
        ]

one_live : (k t n m : ℕ) (J : List Entry) → IsOfTransaction k t J → has_handle (made_by n t J) m ≡ true → OneLive k t m (handles J)
one_live k t n m [] s has = absurd (impossible has)
one_live k t n m (e ∷ J) s has =
    let w = newest k t e J s in
    one_more k t n m e J w (λ had. one_live k t n m J w.before had) has

pub handle_is_live : (k t n m : ℕ) (J : List Entry) → IsOfTransaction k t J → has_handle (made_by n t J) m ≡ true → HasLiveHandle k t m J
handle_is_live k t n m J s has =
    let o = one_live k t n m J s has in
    record { live = o.handle; only = o.only; tenure = o.tenure; owner = o.owner; tx = o.tx }
