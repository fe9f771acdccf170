-- What an event other than an answer keeps of connections that are lent to transactions.
use Rattle.std.proofs.Common.{◌≡◌, ℕ, ◌==◌, inl, inr, true, false, List, [], ◌∷◌, sym, ap, subst, ◌∙◌}
use Rattle.std.specs.List.{list_all}
use Rattle.dsql_laws_calls.specs.journal.declared.entry.Owner.{Owner}
use Rattle.dsql_laws_calls.specs.journal.Kinds.{number_of}
use Rattle.dsql_laws_calls.specs.journal.Readers.{of_tenure}
use Rattle.dsql_laws_calls.specs.pool.declared.moves.Move.TheVariants.{Lend}
use Rattle.dsql_laws_calls.specs.history.declared.event.Event.{Event}
use Rattle.dsql_laws_calls.specs.history.declared.event.Event.TheVariants.{Pool}
use Rattle.dsql_laws_calls.specs.history.declared.work.Scope.TheVariants.{Held}
use Rattle.dsql_laws_calls.specs.history.Readers.Course.{caps}
use Rattle.dsql_laws_calls.specs.history.Readers.Journals.{journal, heard_in}
use Rattle.dsql_laws_calls.specs.history.Readers.Lines.{has_sent}
use Rattle.dsql_laws_calls.specs.history.Readers.Transactions.{is_begun}
use Rattle.dsql_laws_calls.specs.history.Readers.Works.{scope, work}
use Rattle.dsql_laws_calls.specs.history.Rules.Sent.{is_reset_due}
use Rattle.dsql_laws_calls.specs.history.Legal.{Allowed, Lawful}
use Rattle.dsql_laws_tenures.specs.Begins.{is_begin_line}
use Rattle.dsql_laws_tenures.proofs.LinesKept.{lines_first}
use Rattle.dsql_laws_calls.proofs.Beginnings.{lent_once_begun}
use Rattle.dsql_laws_calls.proofs.BeginningsAt.{beginnings, heard_same, is_answer, was_begun}
use Rattle.dsql_laws_calls.proofs.HandedRows.{rows_begun}
use Rattle.dsql_laws_calls.proofs.Inside.{hands_same, inside}
use Rattle.dsql_laws_calls.proofs.Lent.{lent_before}
use Rattle.dsql_laws_calls.proofs.RowsNew.{were_made}
use Rattle.dsql_laws_calls.proofs.StaysUnderWay.{sender_work}
use Rattle.dsql_laws_calls.proofs.Tenures.{fresh_lending}
use Rattle.dsql_laws_calls.proofs.UnderWay.{Facts}
use Rattle.dsql_laws_due.proofs.Holds.{asked_in, begin_of, Kept}
use Rattle.dsql_laws_due.proofs.KeptStays.{asked_text, ended_same, handed_same, lines_same, opening_same, rested_same, untested_same}
use Rattle.dsql_laws_due.proofs.Uses.{reset_same}

pub kept_quiet : (H : List Event) (e : Event) → Lawful (e ∷ H) → is_answer e ≡ false → Facts H → Kept H → Kept (e ∷ H)
kept_quiet H e l none f kept = record {
  lines = λ c t own is other.
      elim (lent_before H e c t own l.0 is) [
        | inl before ↦ lines_same H e l f kept c t own before (heard_same H e c none) other
        | inr w ↦ lines_first (caps (e ∷ H)) (asked_in (e ∷ H) (number_of own)) t (journal (e ∷ H) c) (asked_text (e ∷ H) (number_of own)) (fresh c t own w.0 w.1)
      ];
  rested = λ c t own is m inner done sent.
      elim (lent_before H e c t own l.0 is) [
        | inl before ↦ rested_same H e l f kept c t own before (heard_same H e c none) m inner done sent
        | inr w ↦ absurd (sent_before c t own w.0 w.1 m inner sent)
      ];
  handed = λ c t own is n hands some.
      elim (lent_before H e c t own l.0 is) [
        | inl before ↦ handed_same H e l f kept c t own before (heard_same H e c none) n hands (were_made H e n none some)
        | inr w ↦ (let were = were_made H e n none some in absurd (lent_new c t own w.0 w.1 (rows_begun H n (number_of own) l.0 were (hands_same H e n (number_of own) were hands))))
      ];
  opening = λ c t own is other unbegun.
      elim (lent_before H e c t own l.0 is) [
        | inl before ↦ opening_same H e l f kept c t own before (heard_same H e c none) other (reset_same H e c t own l.0 l.1 before is) unbegun
        | inr w ↦ record {
          line = ap (λ L. is_begin_line (caps (e ∷ H)) (is_reset_due (e ∷ H) c) (begin_of (work (e ∷ H) (number_of own))) L) (fresh c t own w.0 w.1);
          alone = ap (λ L. list_all (λ x. x.call_no == number_of own) L) (fresh c t own w.0 w.1);
        }
      ];
  untested = λ c t own is begun unended.
      elim (lent_before H e c t own l.0 is) [
        | inl before ↦ untested_same H e l f kept c t own before (heard_same H e c none) (was_begun H e (number_of own) none begun) unended
        | inr w ↦ absurd (lent_new c t own w.0 w.1 (was_begun H e (number_of own) none begun))
      ];
  ended = λ c t own is begun ends.
      elim (lent_before H e c t own l.0 is) [
        | inl before ↦ ended_same H e l f kept c t own before (heard_same H e c none) (was_begun H e (number_of own) none begun) ends
        | inr w ↦ absurd (lent_new c t own w.0 w.1 (was_begun H e (number_of own) none begun))
      ];
}
  where
    fresh : (c t : ℕ) (own : Owner) (k : ℕ) → e ≡ Pool (Lend c t own k) → heard_in (e ∷ H) c t ≡ []
    fresh c t own k its = ap (of_tenure t) (heard_same H e c none) ∙ fresh_lending H c t own k l.0 (subst (λ x. Allowed H x) its l.1)

    lent_new : (c t : ℕ) (own : Owner) (k : ℕ) → e ≡ Pool (Lend c t own k) → is_begun H (number_of own) ≡ true → ⊥
    lent_new c t own k its begun = lent_once_begun H c t own k l.0 (subst (λ x. Allowed H x) its l.1) (beginnings H l.0) begun

    sent_before : (c t : ℕ) (own : Owner) (k : ℕ) → e ≡ Pool (Lend c t own k) → (m : ℕ) → scope (work (e ∷ H) m) ≡ Held (number_of own) → has_sent m (journal (e ∷ H) c) ≡ true → ⊥
    sent_before c t own k its m inner sent =
        let before : has_sent m (journal H c) ≡ true = sym (ap (has_sent m) (heard_same H e c none)) ∙ sent in
        let same = sender_work H e m c (number_of own) l before inner in
        let i = inside H l.0 in
        lent_new c t own k its (i.sent m (number_of own) c before (sym (ap scope same) ∙ inner))
