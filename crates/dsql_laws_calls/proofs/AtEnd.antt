-- As the run ends, each call without a reply waits. After that, no such call gets a connection.
use Rattle.std.proofs.Common.{◌≡◌, ◌≢◌, ℕ, ◌≤◌, ◌<◌, ◌==◌, ◌⊎◌, inl, inr, Bool, true, false, not, ◌||◌, List, [], ◌∷◌, length, Option, Some, None, is_some, refl, sym, ap, subst, ◌∙◌, arith}
use Rattle.std.specs.List.{list_all, list_any}
use Rattle.dsql_laws.specs.course.Made.{or_else}
use Rattle.dsql_laws.specs.journal.Readers.{has}
use Rattle.dsql_laws.specs.wait.Requests.{waits}
use Rattle.dsql_laws.specs.pool.declared.moves.Move.TheVariants.{OpenStart, Lend, Back, CloseStart, Gone, Fell}
use Rattle.dsql_laws.specs.pool.Calls.{wants}
use Rattle.dsql_laws.specs.pool.Changes.{back, closing}
use Rattle.dsql_laws.specs.pool.Places.{is_for}
use Rattle.dsql_laws.specs.pool.Pooled.{next_number}
use Rattle.dsql_laws.specs.history.declared.event.Control.TheVariants.{Tick, Set}
use Rattle.dsql_laws.specs.history.declared.record.Stand.TheVariants as stands_at
use Rattle.dsql_laws.specs.history.Readers.Pool.{smallest, pool, wanted_by}
use Rattle.dsql_laws.specs.history.Readers.Tries.{asks_again, tries}
use Rattle.dsql_laws.specs.history.Rules.Stands.{stands, opens, is_waiting, has_to_reply, stand}
use Rattle.dsql_laws.proofs.Tests.{both, same_number}
use Rattle.dsql_laws.proofs.Counts.{waits_some, changed_fewer, gone_fewer}
use Rattle.dsql_laws.proofs.Tried.{is_lent_out, lent_count, shut_fewer, begun_same, same_control}
use Rattle.dsql_laws.proofs.Wanted.{homes_apart}
use Rattle.dsql_laws.specs.history.declared.work.Work.TheVariants.{Look}
use Rattle.dsql_laws.specs.history.Readers.Works.{works, work}
use Rattle.dsql_laws.specs.history.Rules.Line.{due_for}
use Rattle.dsql_laws.specs.history.declared.event.Event.{Event}
use Rattle.dsql_laws.specs.history.declared.event.Event.TheVariants.{Entered, Heard, Pool, Ticked, SetLimit, Replied, Ended}
use Rattle.dsql_laws.specs.history.declared.event.Op.TheVariants.{DbClose}
use Rattle.dsql_laws.specs.history.Readers.Course.{has_ended}
use Rattle.dsql_laws.specs.history.Readers.Unfinished.{unfinished, is_unfinished}
use Rattle.dsql_laws.specs.history.Readers.Calls.{site, calls}
use Rattle.dsql_laws.specs.history.Rules.Course.{ends_once, begins_with_run}
use Rattle.dsql_laws.specs.history.Rules.House.{has_no_chore, is_quiet}
use Rattle.dsql_laws.specs.history.Legal.{Allowed, Lawful}
use Rattle.dsql_laws.proofs.Numbered.{unfinished_from_one}
use Rattle.dsql_laws.proofs.Holdings.{one_at_most}
use Rattle.dsql_laws_calls.proofs.Works.{enters_next, old_unfinished, still_unfinished}
use Rattle.dsql_laws_calls.proofs.Closed.{ended_closed, lends_none}
use Rattle.dsql_laws_work.proofs.Rows.{within_rows}
use Rattle.dsql_laws.specs.tx.declared.tx.Tx.{Tx}
use Rattle.dsql_laws.specs.tx.Transactions.{begun_on, ended_by}
use Rattle.dsql_laws.specs.history.Readers.Transactions.{tx_by, end_of, is_begun, is_over}
use Rattle.dsql_laws_calls.proofs.Plain.{begins}
use Rattle.dsql_laws_calls.proofs.Begun.{EndsIt, BeginsIt, entered_tx, heard_tx, begun_begins, over_begun, as_begun}
use Rattle.dsql_laws_calls.proofs.Stays.{as_many}

-- A call that hasn't entered has no work.
pub no_work_yet : (H : List Event) (m : ℕ) → length (calls H) ≤ m → work H m ≡ Look
no_work_yet H m above = by (within_rows (works H) m Look)
  where
    by : (m < length (works H)) ⊎ ((length (works H) ≤ m) × (work H m ≡ Look)) → work H m ≡ Look
    by (inl less) = let same = as_many H in absurd (omega (arith, less, above, same))
    by (inr none) = none.1

-- As the run ends, each call without a reply waits.

pub waits_only : (w d r a : Bool) (o : Option ℕ) (c : ℕ)
    → is_waiting (or_else (stands w stands_at.Waits) (or_else (opens o) (or_else (stands d (stands_at.Sends c)) (or_else (stands r stands_at.Replies) (stands a stands_at.Asks))))) ≡ true → w ≡ true
waits_only true d r a o c h = refl
waits_only false d r a (Some k) c h = absurd cc
waits_only false true r a None c h = absurd cc
waits_only false false true a None c h = absurd cc
waits_only false false false true None c h = absurd cc
waits_only false false false false None c h = absurd cc

pub all_has : (q : ℕ → Bool) (ns : List ℕ) (n : ℕ) → list_all q ns ≡ true → has n ns ≡ true → q n ≡ true
all_has q [] n h k = absurd cc
all_has q (m ∷ ns) n h k = let a = both (q m) (list_all q ns) h in by (all_has q ns n a.1) (m == n) refl k a.0
  where
    by : (has n ns ≡ true → q n ≡ true) → (b : Bool) → (m == n) ≡ b → (b || has n ns) ≡ true → q m ≡ true → q n ≡ true
    by rest true is j here = subst (λ i. q i ≡ true) (same_number m n is) here
    by rest false is j here = rest j

pub quiet_at_end : (H : List Event) → Allowed H Ended → is_quiet H ≡ true
unfolding Allowed
quiet_at_end H a =
    let b = both (begins_with_run H Ended) (ends_once H Ended) a.course in
    let c = both (not (has_ended H)) (is_quiet H) b.1 in
    c.1

pub waits_at_end : (H : List Event) (n : ℕ) → Allowed H Ended → is_unfinished H n ≡ true → waits n (pool H).waiting ≡ true
waits_at_end H n a u =
    let b = both (list_all (λ m. is_waiting (stand H m)) (unfinished H)) (has_no_chore H) (quiet_at_end H a) in
    let its = all_has (λ m. is_waiting (stand H m)) (unfinished H) n b.0 u in
    waits_only (waits n (pool H).waiting) (is_some (due_for H n)) (has_to_reply H n) (asks_again (tries H n)) (smallest (is_for n) (pool H)) (site H n) its

pub wants_at_end : (H : List Event) (n : ℕ) → Allowed H Ended → is_unfinished H n ≡ true → wants n (pool H) ≡ true
wants_at_end H n a u = ap (λ b. b || list_any (λ conn. is_for n conn.place) (pool H).conns) (waits_at_end H n a u)

pub waiting_unlent : (H : List Event) (n : ℕ) → Lawful H → n ≢ 0 → waits n (pool H).waiting ≡ true → lent_count n (pool H) ≡ 0
waiting_unlent H n l some h =
    let waited = waits_some n (pool H).waiting h in
    let one = one_at_most H n l some in
    let apart = homes_apart n (pool H).conns in
    omega (arith, waited, one, apart)

-- Once the run has ended, a call that has no connection gets none.

pub unlent_stays : (H : List Event) (e : Event) (n : ℕ) → Lawful (e ∷ H) → has_ended H ≡ true → lent_count n (pool H) ≡ 0 → lent_count n (pool (e ∷ H)) ≡ 0
unlent_stays H (Entered client m DbClose) n l h none = let few = shut_fewer n (pool H) in omega (arith, none, few)
unlent_stays H (Pool (OpenStart c k)) n l h none = let same = begun_same n (next_number (pool H)) (wanted_by H k) (pool H).conns in omega (arith, none, same)
unlent_stays H (Pool (Lend c t own k)) n l h none = absurd (lends_none H c t own k l.0 l.1 (ended_closed H h))
unlent_stays H (Pool (Back c)) n l h none = let few = changed_fewer (is_lent_out n) c (back (pool H).moment) (pool H).conns (λ x. refl) in omega (arith, none, few)
unlent_stays H (Pool (CloseStart c why)) n l h none = let few = changed_fewer (is_lent_out n) c closing (pool H).conns (λ x. refl) in omega (arith, none, few)
unlent_stays H (Pool (Gone c)) n l h none = let few = gone_fewer (is_lent_out n) c (pool H).conns in omega (arith, none, few)
unlent_stays H (Pool (Fell c k)) n l h none = let few = gone_fewer (is_lent_out n) c (pool H).conns in omega (arith, none, few)
unlent_stays H (Ticked now) n l h none = let same = same_control (Tick now) n (pool H) in omega (arith, none, same)
unlent_stays H (SetLimit s k) n l h none = let same = same_control (Set s k) n (pool H) in omega (arith, none, same)
unlent_stays H Ended n l h none = let few = shut_fewer n (pool H) in omega (arith, none, few)
unlent_stays H _ n l h none = none

-- If a transaction was ended before its begin had its reply, the end of the run ended it, and it has no
-- connection.

record LeftOver (H : List Event) (n : ℕ) : Type 0 where
  ended : has_ended H ≡ true
  unlent : lent_count n (pool H) ≡ 0

over_one : (f : Option Tx) (p : Option Tx) → p ≡ f → is_some (end_of p) ≡ is_some (end_of f)
over_one f p same = ap (λ o. is_some (end_of o)) same

left_on : (H : List Event) (e : Event) (n : ℕ) → Lawful (e ∷ H) → (has_ended H ≡ true → has_ended (e ∷ H) ≡ true) → LeftOver H n → LeftOver (e ∷ H) n
left_on H e n l on x = record { ended = on x.ended; unlent = unlent_stays H e n l x.ended x.unlent }

left_over : (H : List Event) (n : ℕ) → Lawful H → is_over H n ≡ true → is_unfinished H n ≡ true → LeftOver H n
left_over [] n l over u = absurd cc
left_over (Entered client m op ∷ H) n l over u = by (left_over H n l.0) (entered_tx H client m op n)
  where
    -- The call that enters has begun nothing yet.
    other : is_begun H n ≡ true → n ≢ m
    other b same =
        let new = enters_next H client m op l.1 in
        let begins_it = begun_begins H n l.0 b in
        let looks : work H n ≡ Look = no_work_yet H n (omega (arith, new, same)) in
        let clash : true ≡ false = sym begins_it ∙ ap begins looks in
        cc

    by : (is_over H n ≡ true → is_unfinished H n ≡ true → LeftOver H n) → (tx_by (Entered client m op ∷ H) n ≡ tx_by H n) ⊎ EndsIt H n (tx_by (Entered client m op ∷ H) n) → LeftOver (Entered client m op ∷ H) n
    by rest (inl same) =
        let were : is_over H n ≡ true = sym (over_one (tx_by H n) (tx_by (Entered client m op ∷ H) n) same) ∙ over in
        let still = sym (old_unfinished H client m op n (other (over_begun H n were))) ∙ u in
        left_on H (Entered client m op) n l (λ h. h) (rest were still)
    by rest (inr it) =
        let were : is_begun H n ≡ true = sym (as_begun (ended_by it.by) (tx_by H n)) ∙ ap is_some (sym it.so) ∙ over_begun (Entered client m op ∷ H) n over in
        let still = sym (old_unfinished H client m op n (other were)) ∙ u in
        let clash : true ≡ false = sym still ∙ it.replied in
        absurd cc
left_over (Heard e ∷ H) n l over u = by (left_over H n l.0) (heard_tx H e n)
  where
    by : (is_over H n ≡ true → is_unfinished H n ≡ true → LeftOver H n) → (tx_by (Heard e ∷ H) n ≡ tx_by H n) ⊎ BeginsIt H e n (tx_by (Heard e ∷ H) n) → LeftOver (Heard e ∷ H) n
    by rest (inl same) = left_on H (Heard e) n l (λ h. h) (rest (sym (over_one (tx_by H n) (tx_by (Heard e ∷ H) n) same) ∙ over) u)
    by rest (inr it) = let clash : true ≡ false = sym over ∙ over_one (Some (begun_on e.conn e.tenure None)) (tx_by (Heard e ∷ H) n) it.so in absurd cc
left_over (Ended ∷ H) n l over u =
    let none = waiting_unlent H n l.0 (unfinished_from_one H n l.0 u) (waits_at_end H n l.1 u) in
    let few = shut_fewer n (pool H) in
    record { ended = refl; unlent = omega (arith, none, few) }
left_over (Replied m reply ∷ H) n l over u = let b = still_unfinished H m reply n u in left_on H (Replied m reply) n l (λ h. h) (left_over H n l.0 over b.1)
left_over (e ∷ H) n l over u = left_on H e n l (λ h. h) (left_over H n l.0 over u)

pub over_unlent : (H : List Event) (n : ℕ) → Lawful H → is_over H n ≡ true → is_unfinished H n ≡ true → lent_count n (pool H) ≡ 0
over_unlent H n l over u = let x = left_over H n l over u in x.unlent
