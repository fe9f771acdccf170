-- An answer to the layer, with the moves that it makes due, keeps all that is settled. The argument takes those
-- moves apart.
use Rattle.std.proofs.Common.{◌≡◌, ◌≢◌, ℕ, ◌==◌, ◌⊎◌, inl, inr, Bool, true, false, cond, List, [], ◌∷◌, Option, Some, None, is_some, refl, sym, ap, subst, ◌∙◌, arith}
use Rattle.dsql_laws_calls.specs.driver.Fits.{is_done}
use Rattle.dsql_laws_calls.specs.journal.declared.entry.Entry.{Entry}
use Rattle.dsql_laws_calls.specs.journal.declared.entry.Owner.{Owner}
use Rattle.dsql_laws_calls.specs.journal.Kinds.{number_of}
use Rattle.dsql_laws_calls.specs.journal.Readers.{is_empty}
use Rattle.dsql_laws_calls.specs.wait.declared.request.Request.{Request}
use Rattle.dsql_laws_calls.specs.pool.declared.conn.Place.{Place}
use Rattle.dsql_laws_calls.specs.pool.declared.conn.Place.TheVariants.{Idle, Lent, Opening, Closing}
use Rattle.dsql_laws_calls.specs.pool.declared.moves.CloseCause.{CloseCause}
use Rattle.dsql_laws_calls.specs.pool.declared.moves.Move.{Move}
use Rattle.dsql_laws_calls.specs.pool.declared.moves.Move.TheVariants.{Lend, Back, CloseStart, Gone, Fell}
use Rattle.dsql_laws_calls.specs.pool.declared.moves.Outcome.{Outcome}
use Rattle.dsql_laws_calls.specs.pool.declared.moves.Outcome.TheVariants.{Closes, Serves, Rests}
use Rattle.dsql_laws_calls.specs.pool.Calls.{moves_opened, moves_failed, moves_gone}
use Rattle.dsql_laws_calls.specs.pool.Changes.{back, closing}
use Rattle.dsql_laws_calls.specs.pool.Decisions.{due_openings, openings, falls_to, lends_to_oldest, moves_unwanted, when_opened, when_unwanted}
use Rattle.dsql_laws_calls.specs.pool.Moved.{made}
use Rattle.dsql_laws_calls.specs.pool.Places.{is_for, is_lent}
use Rattle.dsql_laws_calls.specs.pool.Pooled.{Pooled, next_number, next_tenure, place_at}
use Rattle.dsql_laws_calls.specs.history.Readers.Owed.{answered, owed}
use Rattle.dsql_laws_calls.specs.history.Readers.Tries.{with_try, newest_answer, tries}
use Rattle.dsql_laws_calls.specs.history.declared.record.Try.TheVariants.{Refused}
use Rattle.dsql_laws_calls.proofs.laws.Tests.{other_number}
use Rattle.dsql_laws_calls.proofs.laws.Wanted.{wanted}
use Rattle.dsql_laws_others.proofs.Lends.{still_waits, lent_some}
use Rattle.dsql_laws_calls.proofs.Found.{place_in, changed_place, changed_off, gone_at, gone_off}
use Rattle.dsql_laws_calls.proofs.laws_work.Rows.{same_or_not}
use Rattle.dsql_laws_calls.specs.history.declared.event.Event.{Event}
use Rattle.dsql_laws_calls.specs.history.declared.event.Event.TheVariants.{Heard, Pool}
use Rattle.dsql_laws_calls.specs.history.Readers.Pool.{pool, place}
use Rattle.dsql_laws_calls.specs.history.Readers.Unfinished.{is_unfinished}
use Rattle.dsql_laws_calls.specs.history.Rules.Stands.{is_own_step, stand}
use Rattle.dsql_laws_calls.specs.history.Legal.{Lawful}
use Rattle.dsql_laws_calls.specs.laws.OwedMade.{with_moves}
use Rattle.dsql_laws_calls.proofs.laws.Numbered.{unfinished_from_one}
use Rattle.dsql_laws_calls.proofs.laws.OwedAllowed.{next_allowed, all_lawful}
use Rattle.dsql_laws_calls.proofs.Falls.{falls}
use Rattle.dsql_laws_calls.proofs.Owners.{lent_number}
use Rattle.dsql_laws_calls.proofs.Untried.{fallen_wanted}
use Rattle.dsql_laws_calls.proofs.Wanted.{lent_wants_none}
use Rattle.dsql_laws_others.proofs.Answered.{fallen_somewhere}
use Rattle.dsql_laws_others.proofs.ControlMoves.{are_quiet, all_quiet, openings_quiet}
use Rattle.dsql_laws_others.proofs.LentBeside.{all_used}
use Rattle.dsql_laws_others.proofs.LentStands.{somewhere_lent}
use Rattle.dsql_laws_others.proofs.Openings.{silent}
use Rattle.dsql_laws_answers.proofs.Apart.{Left, apart_carried}
use Rattle.dsql_laws_answers.proofs.Layer.{Carried, OfLayer, of_layer, heard_carried}

carried_itself : (H : List Event) → Carried H H
carried_itself H = record { used = λ h. h; somewhere = λ k h. h }

carried_on : (H J K : List Event) → Carried H J → Carried J K → Carried H K
carried_on H J K a b = record { used = λ h. b.used (a.used h); somewhere = λ k h. b.somewhere k (a.somewhere k h) }

quiet_carried : (H : List Event) (ms : List Move) → Lawful H → are_quiet ms (pool H) ≡ true → Carried H (with_moves ms H)
quiet_carried H ms l quiet = record {
  used = λ h. let u = all_quiet H ms 0 (silent H l) quiet in u.used ∙ h;
  somewhere = λ k h. let u = all_quiet H ms k (silent H l) quiet in u.others h;
}

-- A lending, in no call's own step.

lend_carried : (H : List Event) (e : Entry) (c t n : ℕ) (o : Owner) → OfLayer H e → owed (Heard e ∷ H) ≡ Lend c t o n ∷ [] → Lawful (Pool (Lend c t o n) ∷ Heard e ∷ H) → Carried (Heard e ∷ H) (Pool (Lend c t o n) ∷ Heard e ∷ H)
lend_carried H e c t n o it is l = record { used = all_used (Heard e ∷ H) c t o n l; somewhere = λ k. somewhere_lent (Heard e ∷ H) c t o n k l (λ resting. no_step) }
  where
    no_step : is_own_step (Pool (Lend c t o n) ∷ Heard e ∷ H) n ≡ false
    no_step =
        ap (λ ms. cond (is_empty ms) (n == n) (e.call_no == n)) is
        ∙ other_number e.call_no n (λ same. lent_some (Heard e ∷ H) c t o n l (sym same ∙ it.layer))

-- The moves of a connection that isn't lent.

some_place : (H : List Event) (c : ℕ) (q : Place) → place H c ≡ Some q → is_some (place H c) ≡ true
some_place H c q is = ap (λ o. is_some o) is

-- It is opened for no such call.
unopened_at : (H : List Event) (c j : ℕ) (q : Place) → place H c ≡ Some q → is_for j q ≡ false → (p : Place) → place H c ≡ Some p → is_for j p ≡ false
unopened_at H c j q is out p at = let same : p ≡ q = one (sym at ∙ is) in ap (is_for j) same ∙ out
  where
    one : Some p ≡ Some q → p ≡ q
    one k = cc

back_carried : (H : List Event) (c : ℕ) → Lawful (Pool (Back c) ∷ H) → place H c ≡ Some (Opening None) → Carried H (Pool (Back c) ∷ H)
back_carried H c l is =
    apart_carried H (Back c) c
    (record {
      lawful = l;
      before = ap is_lent is;
      after = ap is_lent (changed_place c (back (pool H).moment) Idle (pool H).conns (λ x. refl) (λ x. refl) (some_place H c (Opening None) is));
      beside = λ d apart. changed_off c d (back (pool H).moment) (pool H).conns (λ x. refl) apart;
    }) (λ d t o at. refl)
    (λ j u. inl (record { waits = λ h. h; unopened = unopened_at H c j (Opening None) is refl; tried = refl; step = refl }))

close_carried : (H : List Event) (c : ℕ) (why : CloseCause) → Lawful (Pool (CloseStart c why) ∷ H) → place H c ≡ Some (Opening None) → Carried H (Pool (CloseStart c why) ∷ H)
close_carried H c why l is =
    apart_carried H (CloseStart c why) c
    (record {
      lawful = l;
      before = ap is_lent is;
      after = ap is_lent (changed_place c closing Closing (pool H).conns (λ x. refl) (λ x. refl) (some_place H c (Opening None) is));
      beside = λ d apart. changed_off c d closing (pool H).conns (λ x. refl) apart;
    }) (λ d t o at. refl)
    (λ j u. inl (record { waits = λ h. h; unopened = unopened_at H c j (Opening None) is refl; tried = refl; step = refl }))

gone_carried : (H : List Event) (c : ℕ) → Lawful (Pool (Gone c) ∷ H) → place H c ≡ Some Closing → Carried H (Pool (Gone c) ∷ H)
gone_carried H c l is =
    apart_carried H (Gone c) c
    (record { lawful = l; before = ap is_lent is; after = ap is_lent (ap place_in (gone_at c (pool H).conns)); beside = λ d apart. gone_off c d (pool H).conns apart }) (λ d t o at. refl)
    (λ j u. inl (record { waits = λ h. h; unopened = unopened_at H c j Closing is refl; tried = refl; step = refl }))

-- A refused connection: the call to which it falls stands somewhere, and the connection was opened for no other
-- call.
fell_carried : (H : List Event) (c n : ℕ) → Lawful (Pool (Fell c n) ∷ H) → Carried H (Pool (Fell c n) ∷ H)
fell_carried H c n l =
    let f = falls H c n l.1 in
    apart_carried H (Fell c n) c
    (record { lawful = l; before = ap is_lent f.opening; after = ap is_lent (ap place_in (gone_at c (pool H).conns)); beside = λ d apart. gone_off c d (pool H).conns apart })
    (λ d t o at. other_tries (number_of o) (λ same. lent_not d t o at same)) (λ j u. by f.wanted f.opening f.to j u (same_or_not j n))
  where
    other_tries : (k : ℕ) → n ≢ k → tries (Pool (Fell c n) ∷ H) k ≡ tries H k
    other_tries k apart = ap (λ b. with_try b (Refused (newest_answer H)) (tries H k)) (other_number n k apart)

    lent_not : (d t : ℕ) (o : Owner) → place H d ≡ Some (Lent t o) → n ≡ number_of o → ⊥
    lent_not d t o at same =
        let none = lent_wants_none H d t o l.0 at in
        let some = fallen_wanted H c n l.1 (λ zero. lent_number H d t o l.0 at (sym same ∙ zero)) in
        absurd (omega (arith, ap (λ k. wanted k (pool H)) same, none, some))

    for_another : (w : Option Owner) (j : ℕ) → n ≡ falls_to (Some (Opening w)) (pool H) → j ≢ n → is_for j (Opening w) ≡ false
    for_another None j to apart = refl
    for_another (Some owner) j to apart = other_number (number_of owner) j (λ same. apart (sym same ∙ sym to))

    by : (w : Option Owner) → place H c ≡ Some (Opening w) → n ≡ falls_to (Some (Opening w)) (pool H) → (j : ℕ) → is_unfinished H j ≡ true → (j ≡ n) ⊎ (j ≢ n) → Left H (Fell c n) c j ⊎ (is_some (stand (Pool (Fell c n) ∷ H) j) ≡ true)
    by w is to j u (inl same) =
        let some : n ≢ 0 = subst (λ i. i ≢ 0) same (unfinished_from_one H j l.0 u) in
        inr (ap (λ i. is_some (stand (Pool (Fell c n) ∷ H) i)) same ∙ fallen_somewhere H c n l some)
    by w is to j u (inr apart) = inl (record {
      waits = still_waits j n (pool H).waiting apart;
      unopened = unopened_at H c j (Opening w) is (for_another w j to apart);
      tried = other_tries j (λ same. apart (sym same));
      step = refl;
    })

-- The moves that the answer makes due.

alone : (K : List Event) (m : Move) → Lawful K → owed K ≡ m ∷ [] → Lawful (Pool m ∷ K)
alone K m l is = all_lawful K (m ∷ []) l is

serves_carried : (H : List Event) (e : Entry) (c t : ℕ) (rs : List Request) → OfLayer H e → owed (Heard e ∷ H) ≡ lends_to_oldest c t rs → Carried (Heard e ∷ H) (with_moves (lends_to_oldest c t rs) (Heard e ∷ H))
serves_carried H e c t [] it is = carried_itself (Heard e ∷ H)
serves_carried H e c t (r ∷ rs) it is = lend_carried H e c t r.call r.owner it is (alone (Heard e ∷ H) (Lend c t r.owner r.call) it.lawful is)

unwanted_carried : (H : List Event) (e : Entry) (c : ℕ) (o : Outcome) → OfLayer H e → place H c ≡ Some (Opening None) → owed (Heard e ∷ H) ≡ moves_unwanted c (pool H) o → Carried (Heard e ∷ H) (with_moves (moves_unwanted c (pool H) o) (Heard e ∷ H))
unwanted_carried H e c (Closes why) it at is = close_carried (Heard e ∷ H) c why (alone (Heard e ∷ H) (CloseStart c why) it.lawful is) at
unwanted_carried H e c Serves it at is = serves_carried H e c (next_tenure (pool H) c) (pool H).waiting it is
unwanted_carried H e c Rests it at is = back_carried (Heard e ∷ H) c (alone (Heard e ∷ H) (Back c) it.lawful is) at

opened_carried : (H : List Event) (e : Entry) (c : ℕ) (at : Option Place) → OfLayer H e → place H c ≡ at → owed (Heard e ∷ H) ≡ when_opened at c (pool H) → Carried (Heard e ∷ H) (with_moves (when_opened at c (pool H)) (Heard e ∷ H))
opened_carried H e c (Some (Opening (Some owner))) it at is =
    lend_carried H e c (next_tenure (pool H) c) (number_of owner) owner it is (alone (Heard e ∷ H) (Lend c (next_tenure (pool H) c) owner (number_of owner)) it.lawful is)
opened_carried H e c (Some (Opening None)) it at is = unwanted_carried H e c (when_unwanted (pool H)) it at is
opened_carried H e c _ it at is = carried_itself (Heard e ∷ H)

then_carried : (K : List Event) (m : Move) → Lawful (Pool m ∷ K) → Carried K (Pool m ∷ K) → (q : Pooled) → q ≡ pool (Pool m ∷ K) → Carried K (with_moves (openings (due_openings q) (next_number q)) (Pool m ∷ K))
then_carried K m l first q is =
    carried_on K (Pool m ∷ K) (with_moves (openings (due_openings q) (next_number q)) (Pool m ∷ K)) first
    (quiet_carried (Pool m ∷ K) (openings (due_openings q) (next_number q)) l (openings_quiet (due_openings q) (next_number q) (pool (Pool m ∷ K))))

failed_carried : (K : List Event) (c : ℕ) → Lawful K → owed K ≡ moves_failed c (pool K) → Carried K (with_moves (moves_failed c (pool K)) K)
failed_carried K c l is =
    let n = falls_to (place_at (pool K) c) (pool K) in
    let q = made (Fell c n ∷ []) (pool K) in
    let a : Lawful (Pool (Fell c n) ∷ K) = (l, next_allowed K (Fell c n) (openings (due_openings q) (next_number q)) l is) in
    then_carried K (Fell c n) a (fell_carried K c n a) q refl

closed_carried : (K : List Event) (c : ℕ) → Lawful K → place K c ≡ Some Closing → owed K ≡ moves_gone c (pool K) → Carried K (with_moves (moves_gone c (pool K)) K)
closed_carried K c l at is =
    let q = made (Gone c ∷ []) (pool K) in
    let a : Lawful (Pool (Gone c) ∷ K) = (l, next_allowed K (Gone c) (openings (due_openings q) (next_number q)) l is) in
    then_carried K (Gone c) a (gone_carried K c a at) q refl

moves_carried : (H : List Event) (e : Entry) (at : Option Place) → OfLayer H e → place H e.conn ≡ at → owed (Heard e ∷ H) ≡ answered e.answer e.conn (pool H) at → Carried (Heard e ∷ H) (with_moves (answered e.answer e.conn (pool H) at) (Heard e ∷ H))
moves_carried H e (Some (Opening wanted)) it at is = by (is_done e.answer) is
  where
    by : (b : Bool) → owed (Heard e ∷ H) ≡ cond b (moves_opened e.conn (pool H)) (moves_failed e.conn (pool H)) → Carried (Heard e ∷ H) (with_moves (cond b (moves_opened e.conn (pool H)) (moves_failed e.conn (pool H))) (Heard e ∷ H))
    by true k = opened_carried H e e.conn (place_at (pool H) e.conn) it refl k
    by false k = failed_carried (Heard e ∷ H) e.conn it.lawful k
moves_carried H e (Some Closing) it at is = closed_carried (Heard e ∷ H) e.conn it.lawful at is
moves_carried H e _ it at is = carried_itself (Heard e ∷ H)

pub answer_carried : (H : List Event) (e : Entry) → Lawful (Heard e ∷ H) → is_lent (place H e.conn) ≡ false → Carried H (with_moves (owed (Heard e ∷ H)) (Heard e ∷ H))
answer_carried H e l out =
    let it = of_layer H e l out in
    carried_on H (Heard e ∷ H) (with_moves (owed (Heard e ∷ H)) (Heard e ∷ H)) (heard_carried H e it) (moves_carried H e (place H e.conn) it refl refl)
