-- What a call has to send after an answer stays due as the connection is let go. The argument: what is due keeps the
-- connection in use, and a connection that isn't in use is neither the call's nor given to it.
use Rattle.std.proofs.Common.{◌≡◌, ◌≢◌, ℕ, ◌≤◌, ◌==◌, ◌⊎◌, inl, inr, Bool, true, false, ◌||◌, cond, List, [], ◌∷◌, Some, None, is_some, refl, sym, ap, ◌∙◌, arith}
use Rattle.std.specs.List.{list_any}
use Rattle.dsql_engine_going.specs.journal.declared.entry.Entry.{Entry}
use Rattle.dsql_engine_going.specs.journal.declared.entry.Owner.{Owner}
use Rattle.dsql_engine_going.specs.journal.Kinds.{number_of}
use Rattle.dsql_engine_going.specs.wait.declared.request.Request.{Request}
use Rattle.dsql_engine_going.specs.wait.Requests.{waits}
use Rattle.dsql_engine_going.specs.pool.declared.conn.Place.TheVariants.{Lent}
use Rattle.dsql_engine_going.specs.pool.declared.moves.Move.TheVariants.{Back, CloseStart}
use Rattle.dsql_engine_going.specs.pool.declared.moves.Outcome.{Outcome}
use Rattle.dsql_engine_going.specs.pool.declared.moves.Outcome.TheVariants.{Closes, Serves, Rests}
use Rattle.dsql_engine_going.specs.pool.Calls.{wants}
use Rattle.dsql_engine_going.specs.pool.Decisions.{lends_to_oldest, moves_back, when_given_back}
use Rattle.dsql_engine_going.specs.pool.Places.{is_for}
use Rattle.dsql_engine_going.specs.pool.Pooled.{next_tenure}
use Rattle.dsql_engine_going.specs.history.declared.event.Event.{Event}
use Rattle.dsql_engine_going.specs.history.declared.event.Event.TheVariants.{Heard, Pool}
use Rattle.dsql_engine_going.specs.history.Readers.Owed.{fate, given_back}
use Rattle.dsql_engine_going.specs.history.Readers.Pool.{place, pool}
use Rattle.dsql_engine_going.specs.history.Readers.Unfinished.{is_unfinished}
use Rattle.dsql_engine_going.specs.history.Readers.Works.{borrower, work}
use Rattle.dsql_engine_going.specs.history.Rules.Line.{due_for, due_in, is_used}
use Rattle.dsql_engine_going.specs.history.Rules.Settled.{Settled}
use Rattle.dsql_engine_going.specs.history.Legal.{Calm, Lawful}
use Rattle.dsql_engine_going.specs.laws.Leaving.{MayLeave}
use Rattle.dsql_engine_going.specs.laws_calls.UnderWay.{StaysWithItsCall}
use Rattle.dsql_engine_going.specs.laws.OwedMade.{with_moves}
use Rattle.dsql_engine_going.specs.laws_steps.Groups.{let_go}
use Rattle.dsql_engine_going.proofs.laws_work.Rows.{same_or_not}
use Rattle.dsql_engine_going.proofs.laws.GivenBack.{back_lawful}
use Rattle.dsql_engine_going.proofs.laws.Tests.{other_number, same_itself}
use Rattle.dsql_engine_going.proofs.laws.Truths.{or_first}
use Rattle.dsql_engine_going.proofs.laws.Wanted.{wanted, wants_counts}
use Rattle.dsql_engine_going.proofs.laws.Wanting.{wants_its_own}
use Rattle.dsql_engine_going.proofs.laws_calls.Cases.{true_false}
use Rattle.dsql_engine_going.proofs.laws_calls.Coming.{stays_with_its_call}
use Rattle.dsql_engine_going.proofs.laws_calls.Own.{asks_own}
use Rattle.dsql_engine_going.proofs.laws_calls.Wanted.{lent_wants_none}
use Rattle.dsql_engine_going.proofs.laws_others.Due.{due_keeps}
use Rattle.dsql_engine_going.proofs.laws_others.Leaves.{leaves_back, leaves_closing}
use Rattle.dsql_engine_going.proofs.laws_others.Left.{due_left}
use Rattle.dsql_engine_going.proofs.laws_others.LentOthers.{due_others}
use Rattle.dsql_engine_hearing.specs.Hearing.{StaysDue}
use Rattle.dsql_engine_hearing.proofs.Letting.{LentTo, comes_there, may_leave, same_let_go}
use Rattle.dsql_engine_hearing.proofs.Steps.{nobody_left}

-- A call that uses a lent connection doesn't wait for one.
unwaiting : (K : List Event) (c t : ℕ) (own : Owner) (m : ℕ) → Lawful K → m ≢ 0 → place K c ≡ Some (Lent t own) → borrower K m ≡ number_of own → waits m (pool K).waiting ≡ false
unwaiting K c t own m l some at uses = by (waits m (pool K).waiting) refl
  where
    by : (b : Bool) → waits m (pool K).waiting ≡ b → waits m (pool K).waiting ≡ false
    by true is =
        let wanting : wants m (pool K) ≡ true = or_first (waits m (pool K).waiting) (list_any (λ conn. is_for m conn.place) (pool K).conns) is in
        let its : m ≡ number_of own = sym (asks_own K m (wants_its_own K m l some wanting)) ∙ uses in
        let one : 1 ≤ wanted m (pool K) = wants_counts m (pool K) wanting in
        let none : wanted m (pool K) ≡ 0 = ap (λ i. wanted i (pool K)) its ∙ lent_wants_none K c t own l at in
        absurd (omega (arith, one, none))
    by false is = is

-- What is due for a call that doesn't wait stays due as another's connection, or its own unused one, is given back.

due_served : (K : List Event) (c u : ℕ) (rs : List Request) (may : MayLeave K c) (m : ℕ) → m ≢ 0 → waits m rs ≡ false → Lawful (with_moves (lends_to_oldest c u rs) (Pool (Back c) ∷ K))
    → due_for (with_moves (lends_to_oldest c u rs) (Pool (Back c) ∷ K)) m ≡ due_for K m
due_served K c u [] may m some calm l = due_left K (Back c) (leaves_back K c may l) m some
due_served K c u (r ∷ rs) may m some calm l =
    due_others (Pool (Back c) ∷ K) c u r.owner r.call m l apart ∙ due_left K (Back c) (leaves_back K c may l.0) m some
  where
    apart : m ≢ r.call
    apart same = true_false (waits m (r ∷ rs)) (ap (λ b. b || waits m rs) (ap (λ i. r.call == i) same ∙ same_itself r.call)) calm

due_given : (K : List Event) (c : ℕ) (o : Outcome) (may : MayLeave K c) (m : ℕ) → m ≢ 0 → waits m (pool K).waiting ≡ false → Lawful (with_moves (moves_back c (pool K) o) K)
    → due_for (with_moves (moves_back c (pool K) o) K) m ≡ due_for K m
due_given K c (Closes why) may m some calm l = due_left K (CloseStart c why) (leaves_closing K c why may l) m some
due_given K c Serves may m some calm l = due_served K c (next_tenure (pool K) c) (pool K).waiting may m some calm l
due_given K c Rests may m some calm l = due_left K (Back c) (leaves_back K c may l) m some

-- Nothing is due for the layer, as call 0.

none_at_zero : (P : List Event) → is_unfinished P 0 ≡ false → due_for P 0 ≡ None
none_at_zero P none = ap (λ (b : Bool). cond b (due_in P 0 (work P 0)) None) none

layer_stays : (K : List Event) (c n m : ℕ) → Lawful K → m ≡ 0 → StaysDue K c n m
layer_stays K c n m l is =
    let here : due_for K m ≡ None = ap (due_for K) is ∙ none_at_zero K (nobody_left K l) in
    let there : due_for (let_go c n K) m ≡ None = ap (due_for (let_go c n K)) is ∙ none_at_zero (let_go c n K) (same_let_go K c n 0 ∙ nobody_left K l) in
    record { used = λ due. absurd (true_false (is_some (due_for K m)) due (ap (λ d. is_some d) here)); same = there ∙ sym here }

call_stays : (H : List Event) (e : Entry) (n : ℕ) → Lawful (Heard e ∷ H) → Calm H → Settled H → LentTo (place H e.conn) n → e.call_no ≢ 0 → StaysDue (Heard e ∷ H) e.conn n e.call_no
call_stays H e n l calm s at some = record {
  used = λ due. ap (is_used K) number ∙ due_keeps K m e.conn e.tenure it.owner l (other_number m 0 some) it.lent uses due;
  same = by (is_used K n) refl;
}
  where
    K : List Event
    K = Heard e ∷ H

    m : ℕ
    m = e.call_no

    it : StaysWithItsCall H e
    it = stays_with_its_call H e l.0 (comes_there H e n l.1 at)

    uses : borrower K m ≡ number_of it.owner
    uses = it.used some

    number : n ≡ number_of it.owner
    number = let lent = it.lent in let there = at.there in let same : it.owner ≡ at.owner = cc in sym at.number ∙ ap number_of (sym same)

    by : (b : Bool) → is_used K n ≡ b → due_for (cond b K (with_moves (given_back K e.conn) K)) m ≡ due_for K m
    by true used = refl
    by false unused =
        let may = may_leave H e n l calm s at unused in
        due_given K e.conn (when_given_back (fate K e.conn) e.conn (pool K)) may m some (unwaiting K e.conn e.tenure it.owner m l some it.lent uses) (back_lawful K e.conn l may)

-- After an answer, letting the connection go changes nothing of what is due for the answer's call.
pub stays_due : (H : List Event) (e : Entry) (n : ℕ) → Lawful (Heard e ∷ H) → Calm H → Settled H → LentTo (place H e.conn) n → StaysDue (Heard e ∷ H) e.conn n e.call_no
stays_due H e n l calm s at = by (same_or_not e.call_no 0)
  where
    by : (e.call_no ≡ 0) ⊎ (e.call_no ≢ 0) → StaysDue (Heard e ∷ H) e.conn n e.call_no
    by (inl none) = layer_stays (Heard e ∷ H) e.conn n e.call_no l none
    by (inr some) = call_stays H e n l calm s at some
