-- The exchanges kept for each lent connection, by its number, are those of its tenure.
use Rattle.std.proofs.Common.{◌≡◌, ℕ, ◌==◌, Bool, true, false, ◌||◌, cond, List, [], ◌∷◌, Some, None, refl, sym, ap, subst, ◌∙◌, ◌⊎◌, inl, inr}
use Rattle.dsql_laws.specs.driver.Kinds.{is_bad, is_valid}
use Rattle.dsql_laws.specs.driver.declared.caps.Caps.{Caps}
use Rattle.dsql_laws.specs.course.declared.course.Wish.{Wish}
use Rattle.dsql_laws.specs.journal.declared.entry.Entry.{Entry}
use Rattle.dsql_laws.specs.journal.declared.entry.Owner.{Owner}
use Rattle.dsql_laws.specs.journal.Kinds.{is_call, number_of}
use Rattle.dsql_laws.specs.pool.declared.moves.Move.TheVariants.{Lend}
use Rattle.dsql_laws_work.proofs.Rows.{same_or_not}
use Rattle.dsql_laws.specs.journal.Readers.{is_empty, of_tenure, last_tenure}
use Rattle.dsql_laws.specs.pool.declared.conn.Place.TheVariants.{Lent}
use Rattle.dsql_laws.specs.works.Exchanges.{exchanges, step_of, with_exchange}
use Rattle.dsql_laws.specs.works.Line.{Asked, line_after, body_after}
use Rattle.dsql_laws.proofs.Tests.{same_itself}
use Rattle.dsql_laws_calls.specs.Made.{with_entry, first_sent, sent_next, made}
use Rattle.dsql_laws.specs.history.declared.event.Event.{Event}
use Rattle.dsql_laws.specs.history.Readers.Course.{caps}
use Rattle.dsql_laws.specs.history.Readers.Journals.{journal, heard_in}
use Rattle.dsql_laws.specs.history.Readers.Pool.{place}
use Rattle.dsql_laws.specs.history.Rules.Sent.{asked_by, is_reset_due, line_of}
use Rattle.dsql_laws.specs.history.Legal.{Lawful, Allowed}
use Rattle.dsql_laws_calls.proofs.Lines.{line_here}
use Rattle.dsql_laws_calls.proofs.KeptThere.{kept_there, made_by}
use Rattle.dsql_laws.specs.history.declared.event.Event.TheVariants.{Heard, Pool}
use Rattle.dsql_laws_calls.proofs.Owners.{lent_asks}
use Rattle.dsql_laws_calls.proofs.Lent.{lent_before}
use Rattle.dsql_laws_calls.proofs.Tenures.{fresh_lending}
use Rattle.dsql_laws_calls.proofs.Own.{asks_own}
use Rattle.dsql_laws_calls.proofs.CallTenures.{line_of_call}
use Rattle.dsql_laws_calls.proofs.BeginningsAt.{heard_tenure, heard_other}

all_exchanged : (entries : List Entry) → made_by [] with_entry entries ≡ exchanges entries
all_exchanged [] = refl
all_exchanged (e ∷ earlier) = ap (λ made. with_exchange (step_of e.call) e.answer made) (all_exchanged earlier)

pub made_lent : (H : List Event) (c t : ℕ) (own : Owner) → Lawful H → place H c ≡ Some (Lent t own) → made H c ≡ exchanges (heard_in H c t)
made_lent H c t own l is = kept_there [] with_entry H c t own l is ∙ all_exchanged (heard_in H c t)

-- The newest entry of the connection's journal and the exchanges decide what is sent next.

next_by : (can : Caps) (reset : Bool) (asked : Asked) (w : Wish) (t : ℕ) (J : List Entry) → (is_empty (of_tenure t J) ≡ false → last_tenure J ≡ t)
    → line_after can reset asked w (of_tenure t J) ≡ sent_next can reset asked w t J (exchanges (of_tenure t J))
next_by can reset asked w t [] going = refl
next_by can reset asked w t (e ∷ J) going = by (e.tenure == t) refl
  where
    by : (b : Bool) → (e.tenure == t) ≡ b → line_after can reset asked w (of_tenure t (e ∷ J)) ≡ sent_next can reset asked w t (e ∷ J) (exchanges (of_tenure t (e ∷ J)))
    by true same =
        let more : of_tenure t (e ∷ J) ≡ e ∷ of_tenure t J = ap (λ (b : Bool). cond b (e ∷ of_tenure t J) (of_tenure t J)) same in
        ap (λ L. line_after can reset asked w L) more
        ∙ sym (ap (λ (b : Bool). cond b (cond (is_bad e.answer || is_valid e.call) None (body_after can false asked w (exchanges (of_tenure t (e ∷ J))))) (first_sent can reset asked w (exchanges (of_tenure t (e ∷ J))))) same
        ∙ ap (λ L. cond (is_bad e.answer || is_valid e.call) None (body_after can false asked w (exchanges L))) more)
    by false other =
        let none : of_tenure t (e ∷ J) ≡ [] = no_entry (of_tenure t (e ∷ J)) (λ some. never (e.tenure == t) (ap (λ u. u == t) (going some) ∙ same_itself t) other) in
        ap (λ L. line_after can reset asked w L) none
        ∙ sym (ap (λ (b : Bool). cond b (cond (is_bad e.answer || is_valid e.call) None (body_after can false asked w (exchanges (of_tenure t (e ∷ J))))) (first_sent can reset asked w (exchanges (of_tenure t (e ∷ J))))) other
        ∙ ap (λ L. first_sent can reset asked w (exchanges L)) none)
      where
        never : (b : Bool) → b ≡ true → b ≡ false → ⊥
        never b h k = cc

        no_entry : (L : List Entry) → (is_empty L ≡ false → ⊥) → L ≡ []
        no_entry [] h = refl
        no_entry (x ∷ L) h = absurd (h refl)

-- If something was heard in the tenure of a lent connection, the newest entry of its journal is of that tenure.
heard_last : (H : List Event) (c t : ℕ) (own : Owner) → Lawful H → place H c ≡ Some (Lent t own) → is_empty (heard_in H c t) ≡ false → last_tenure (journal H c) ≡ t
heard_last [] c t own l is some = absurd cc
heard_last (e ∷ H) c t own l is some = by (heard_last H c t own l.0) (lent_before H e c t own l.0 is)
  where
    answer : (x : Entry) → Allowed H (Heard x) → place H c ≡ Some (Lent t own) → (place H c ≡ Some (Lent t own) → is_empty (heard_in H c t) ≡ false → last_tenure (journal H c) ≡ t) → is_empty (heard_in (Heard x ∷ H) c t) ≡ false → last_tenure (journal (Heard x ∷ H) c) ≡ t
    answer x a before rest h =
        elim (same_or_not x.conn c) [
          | inl here ↦
              ap (λ b. last_tenure (cond b (x ∷ journal H c) (journal H c))) (ap (λ j. j == c) here ∙ same_itself c) ∙ heard_tenure H x t own a (ap (place H) here ∙ before)
          | inr apart ↦
              (let J = heard_other H x c apart in
              ap last_tenure J ∙ rest before (sym (ap (λ L. is_empty (of_tenure t L)) J) ∙ h))
        ]

    begun : (x : Event) → (place H c ≡ Some (Lent t own) → is_empty (heard_in H c t) ≡ false → last_tenure (journal H c) ≡ t) → Allowed H x → place H c ≡ Some (Lent t own) → is_empty (heard_in (x ∷ H) c t) ≡ false → last_tenure (journal (x ∷ H) c) ≡ t
    begun (Heard x) rest a before h = answer x a before rest h
    begun x rest a before h = rest before h

    by : (place H c ≡ Some (Lent t own) → is_empty (heard_in H c t) ≡ false → last_tenure (journal H c) ≡ t) → (place H c ≡ Some (Lent t own)) ⊎ ((k : ℕ) × (e ≡ Pool (Lend c t own k))) → last_tenure (journal (e ∷ H) c) ≡ t
    by rest (inl before) = begun e rest l.1 before some
    by rest (inr w) = fresh w.0 w.1
      where
        fresh : (k : ℕ) → e ≡ Pool (Lend c t own k) → last_tenure (journal (e ∷ H) c) ≡ t
        fresh k its =
            let none : heard_in (e ∷ H) c t ≡ [] = ap (λ x. heard_in (x ∷ H) c t) its ∙ fresh_lending H c t own k l.0 (subst (λ x. Allowed H x) its l.1) in
            let wrong : true ≡ false = sym (ap is_empty none) ∙ some in
            absurd cc

pub line_made : (H : List Event) (c t : ℕ) (own : Owner) (w : Wish) → Lawful H → place H c ≡ Some (Lent t own) → is_call own ≡ true
    → line_of H (number_of own) w ≡ sent_next (caps H) (is_reset_due H c) (asked_by H (number_of own)) w t (journal H c) (made H c)
line_made H c t own w l is call =
    line_here H c t own (number_of own) w l is (asks_own H (number_of own) (lent_asks H c t own l is))
    ∙ line_of_call H c t own w l is call
    ∙ next_by (caps H) (is_reset_due H c) (asked_by H (number_of own)) w t (journal H c) (heard_last H c t own l is)
    ∙ ap (λ m. sent_next (caps H) (is_reset_due H c) (asked_by H (number_of own)) w t (journal H c) m) (sym (made_lent H c t own l is))
