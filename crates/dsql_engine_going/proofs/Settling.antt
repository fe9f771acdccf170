-- A call that enters may come next. After the moves that this makes due, all except the call is settled.
use Rattle.std.proofs.Common.{◌≡◌, ℕ, ◌==◌, true, false, not, ◌&&◌, List, [], ◌∷◌, refl, sym, ap, ◌∙◌}
use Rattle.dsql_laws_calls.specs.journal.Readers.{is_empty}
use Rattle.dsql_laws_calls.specs.history.declared.event.Event.{Event}
use Rattle.dsql_laws_calls.specs.history.declared.event.Event.TheVariants.{Entered}
use Rattle.dsql_laws_calls.specs.history.declared.event.Op.{Op}
use Rattle.dsql_laws_calls.specs.history.declared.event.Op.TheVariants.{Commit, DbClose, Rollback, RowsClose}
use Rattle.dsql_laws_calls.specs.history.Readers.Calls.{is_busy, next_call}
use Rattle.dsql_laws_calls.specs.history.Readers.Labels.{names_fit}
use Rattle.dsql_laws_calls.specs.history.Readers.Owed.{owed}
use Rattle.dsql_laws_calls.specs.history.Rules.Course.{keeps_course}
use Rattle.dsql_laws_calls.specs.history.Rules.Order.{follows}
use Rattle.dsql_laws_calls.specs.history.Rules.Settled.{Settled, calls_stand, is_settled_but, owes_nothing, uses_what_is_lent}
use Rattle.dsql_laws_calls.specs.history.Legal.{Allowed, Lawful}
use Rattle.dsql_laws_calls.proofs.laws.OwedAllowed.{owed_made}
use Rattle.dsql_laws_calls.proofs.laws.Tests.{same_itself, together}
use Rattle.dsql_laws_others.proofs.Entries.{goes_on_entered, used_entered}
use Rattle.dsql_laws_others.specs.Entries.{is_plain}
use Rattle.dsql_laws_others.specs.Ends.{ends_transaction}
use Rattle.dsql_laws_others.proofs.ClosedDatabase.{closed_goes_on, closed_used}
use Rattle.dsql_laws_others.proofs.ClosedRows.{goes_on_closing, used_closing}
use Rattle.dsql_laws_others.proofs.EndedTx.{each_after_end, used_after_end}
use Rattle.dsql_laws_others.proofs.GivenUp.{settled_from}
use Rattle.dsql_laws_steps.specs.Groups.{with_owed}
use Rattle.dsql_engine_going.proofs.Replying.{settled_owes}
use Rattle.dsql_engine_going.proofs.SettledBut.{goes_on_any}

-- The call may come next.

-- If all is settled, all except call 0 is, which doesn't exist.
pub settled_but_none : (H : List Event) → Settled H → is_settled_but 0 H ≡ true
settled_but_none H s = together (owes_nothing H) (uses_what_is_lent H && calls_stand H) s.nothing_owed (together (uses_what_is_lent H) (calls_stand H) s.used s.somewhere)

course_of_entry : (H : List Event) (client n : ℕ) (op : Op) → is_empty H ≡ false → keeps_course H (Entered client n op) ≡ true
course_of_entry [] client n op begun = absurd cc
course_of_entry (e ∷ H) client n op begun = refl

pub entry_allowed : (H : List Event) (client n : ℕ) (op : Op) → n ≡ next_call H → is_empty H ≡ false → is_busy client H ≡ false → names_fit H op ≡ true → Settled H → Allowed H (Entered client n op)
unfolding Allowed
entry_allowed H client n op next begun free fit settled = record {
  course = course_of_entry H client n op begun;
  numbers =
      together (n == next_call H) (not (is_busy client H) && names_fit H op) (ap (λ k. n == k) (sym next) ∙ same_itself n)
      (together (not (is_busy client H)) (names_fit H op) (ap not free) fit);
  sets = refl;
  limit = refl;
  asking = refl;
  order = ap (λ ms. follows ms (Entered client n op)) (settled_owes H 0 (settled_but_none H settled));
  causes = refl;
  line = refl;
  journals = refl;
  replies = refl;
}

-- All except the call is settled.

plain_settled : (H : List Event) (client n : ℕ) (op : Op) → Lawful (Entered client n op ∷ H) → Settled H → is_plain op ≡ true → owed (Entered client n op ∷ H) ≡ [] → is_settled_but n (Entered client n op ∷ H) ≡ true
plain_settled H client n op l s plain none =
    settled_from (Entered client n op ∷ H) n none (used_entered H client n op l plain ∙ s.used) (goes_on_entered H client n op l plain (goes_on_any H n l.0 s.somewhere))

ending_settled : (H : List Event) (client n : ℕ) (op : Op) → Lawful (Entered client n op ∷ H) → Settled H → ends_transaction op ≡ true → owed (Entered client n op ∷ H) ≡ [] → is_settled_but n (Entered client n op ∷ H) ≡ true
ending_settled H client n op l s ends none =
    settled_from (Entered client n op ∷ H) n none (used_after_end H client n op l ends ∙ s.used) (each_after_end H client n op l ends s.somewhere)

pub entered_settled : (H : List Event) (client n : ℕ) (op : Op) → Lawful (Entered client n op ∷ H) → Settled H → is_settled_but n (with_owed (Entered client n op ∷ H)) ≡ true
entered_settled H client n DbClose l s =
    let K = Entered client n DbClose ∷ H in settled_from (with_owed K) n (owed_made K) (closed_used H client n l s.used) (closed_goes_on H client n l s.somewhere)
entered_settled H client n (RowsClose rows) l s =
    settled_from (Entered client n (RowsClose rows) ∷ H) n refl (used_closing H client n rows l ∙ s.used) (goes_on_closing H client n rows l s.somewhere)
entered_settled H client n (Commit tx) l s = ending_settled H client n (Commit tx) l s refl refl
entered_settled H client n (Rollback tx) l s = ending_settled H client n (Rollback tx) l s refl refl
entered_settled H client n op l s = plain_settled H client n op l s refl refl
