-- A refused connection falls to the call that the pool names. A fall that is owed is the first owed move, right
-- after its answer.
use Rattle.std.proofs.Common.{◌≡◌, ℕ, zero, suc, ◌+◌, ◌-◌, Bool, true, false, not, cond, List, [], ◌∷◌, map, take, Option, Some, None, refl, sym, ap, ◌∙◌}
use Rattle.std.specs.Prelude.{drop, length}
use Rattle.std.specs.List.{list_all}
use Rattle.std.proofs.lemmas.List.Folds.{list_all-append}
use Rattle.dsql_laws.specs.driver.declared.answer.DriverAnswer.{DriverAnswer}
use Rattle.dsql_laws.specs.driver.Fits.{is_done}
use Rattle.dsql_laws.specs.journal.Readers.{is_empty}
use Rattle.dsql_laws.specs.journal.declared.entry.Entry.{Entry}
use Rattle.dsql_laws.specs.journal.declared.entry.Owner.{Owner}
use Rattle.dsql_laws.specs.wait.declared.request.Request.{Request}
use Rattle.dsql_laws.specs.pool.declared.conn.Place.{Place}
use Rattle.dsql_laws.specs.pool.declared.conn.Place.TheVariants.{Opening, Closing}
use Rattle.dsql_laws.specs.pool.declared.moves.CloseCause.{CloseCause}
use Rattle.dsql_laws.specs.pool.declared.moves.CloseCause.TheVariants.{IdleFull, DbClosed}
use Rattle.dsql_laws.specs.pool.declared.moves.Move.{Move}
use Rattle.dsql_laws.specs.pool.declared.moves.Move.TheVariants.{Back, CloseStart, Gone, Fell}
use Rattle.dsql_laws.specs.pool.declared.moves.Outcome.{Outcome}
use Rattle.dsql_laws.specs.pool.declared.moves.Outcome.TheVariants.{Serves}
use Rattle.dsql_laws.specs.pool.Calls.{then_openings, moves_opened, moves_failed, open_set, idle_set, lifetime_set, idle_time_set}
use Rattle.dsql_laws.specs.pool.Decisions.{openings, due_openings, lends_to_oldest, moves_back, moves_unwanted, when_opened, when_unwanted, when_given_back, falls_to, closings_of_setting}
use Rattle.dsql_laws.specs.pool.Moved.{made, shut, ticked}
use Rattle.dsql_laws.specs.pool.Pooled.{Pooled, next_number, next_tenure, place_at}
use Rattle.dsql_laws.specs.history.declared.event.Control.{Control}
use Rattle.dsql_laws.specs.history.declared.event.Setting.TheVariants.{MaxOpen, MaxIdle, MaxLife, MaxIdleTime}
use Rattle.dsql_laws.specs.history.declared.event.Control.TheVariants.{Tick, Set}
use Rattle.dsql_laws.specs.history.Readers.Owed.{answered, controlled, fate, leaving, left_of, owed}
use Rattle.dsql_laws.proofs.Tests.{both, together, move_is}
use Rattle.dsql_laws.proofs.Outdated.{outdated_all}
use Rattle.dsql_laws.specs.history.declared.event.Event.{Event}
use Rattle.dsql_laws.specs.history.declared.event.Event.TheVariants.{Entered, Heard, Pool, Ticked, SetLimit, Ended}
use Rattle.dsql_laws.specs.history.declared.event.Op.TheVariants.{DbClose}
use Rattle.dsql_laws.specs.history.Readers.Pool.{pool, place}
use Rattle.dsql_laws.specs.history.Rules.Order.{follows}
use Rattle.dsql_laws.specs.history.Legal.{Allowed}
use Rattle.dsql_laws.proofs.AtRest.{keeps_of}

abbrev pub is_no_fall : Move → Bool
is_no_fall (Fell c n) = false
is_no_fall _ = true

-- Is true if none of these moves makes a refused connection fall to a call.
abbrev pub are_no_falls : List Move → Bool
are_no_falls ms = list_all is_no_fall ms

openings_fall_none : (k c : ℕ) → are_no_falls (openings k c) ≡ true
openings_fall_none zero c = refl
openings_fall_none (suc k) c = openings_fall_none k (c + 1)

then_fall_none : (ms : List Move) (p : Pooled) → are_no_falls ms ≡ true → are_no_falls (then_openings ms p) ≡ true
then_fall_none ms p h =
    let k = due_openings (made ms p) in
    let c = next_number (made ms p) in
    list_all-append is_no_fall ms (openings k c) ∙ together (are_no_falls ms) (are_no_falls (openings k c)) h (openings_fall_none k c)

pub closings_fall_none : (why : CloseCause) (cs : List ℕ) → are_no_falls (map (λ c. CloseStart c why) cs) ≡ true
closings_fall_none why [] = refl
closings_fall_none why (c ∷ cs) = closings_fall_none why cs

surplus_falls_none : (p : Pooled) → are_no_falls (closings_of_setting p) ≡ true
surplus_falls_none p = closings_fall_none IdleFull (take (length p.idle - p.limits.max_idle) p.idle)

control_falls_none : (control : Control) (p : Pooled) → are_no_falls (controlled control p) ≡ true
control_falls_none (Tick n) p = outdated_all is_no_fall (λ c why. refl) (ticked n p)
control_falls_none (Set MaxOpen n) p = then_fall_none (closings_of_setting (open_set n p)) (open_set n p) (surplus_falls_none (open_set n p))
control_falls_none (Set MaxIdle n) p = surplus_falls_none (idle_set n p)
control_falls_none (Set MaxLife n) p = outdated_all is_no_fall (λ c why. refl) (lifetime_set n p)
control_falls_none (Set MaxIdleTime n) p = outdated_all is_no_fall (λ c why. refl) (idle_time_set n p)

oldest_falls_none : (c t : ℕ) (rs : List Request) → are_no_falls (lends_to_oldest c t rs) ≡ true
oldest_falls_none c t [] = refl
oldest_falls_none c t (r ∷ rs) = refl

back_falls_none : (c : ℕ) (p : Pooled) (o : Outcome) → are_no_falls (moves_back c p o) ≡ true
back_falls_none c p Serves = oldest_falls_none c (next_tenure p c) p.waiting
back_falls_none c p _ = refl

unwanted_falls_none : (c : ℕ) (p : Pooled) (o : Outcome) → are_no_falls (moves_unwanted c p o) ≡ true
unwanted_falls_none c p Serves = oldest_falls_none c (next_tenure p c) p.waiting
unwanted_falls_none c p _ = refl

pub opened_falls_none : (c : ℕ) (p : Pooled) (at : Option Place) → are_no_falls (when_opened at c p) ≡ true
opened_falls_none c p (Some (Opening (Some owner))) = refl
opened_falls_none c p (Some (Opening None)) = unwanted_falls_none c p (when_unwanted p)
opened_falls_none c p _ = refl

leaving_falls_none : (H : List Event) (m : Move) → are_no_falls (leaving H m) ≡ true
leaving_falls_none H (Back c) = back_falls_none c (pool H) (when_given_back (fate H c) c (pool H))
leaving_falls_none H (CloseStart c why) = back_falls_none c (pool H) (when_given_back (fate H c) c (pool H))
leaving_falls_none H _ = refl

fewer_fall_none : (ms : List Move) → are_no_falls ms ≡ true → are_no_falls (drop 1 ms) ≡ true
fewer_fall_none [] h = refl
fewer_fall_none (m ∷ ms) h = let a = both (is_no_fall m) (are_no_falls ms) h in a.1

answered_later : (answer : DriverAnswer) (c : ℕ) (p : Pooled) (at : Option Place) → are_no_falls (drop 1 (answered answer c p at)) ≡ true
answered_later answer c p (Some (Opening wanted)) =
    let opened = fewer_fall_none (moves_opened c p) (opened_falls_none c p (place_at p c)) in
    let q = made (Fell c (falls_to (place_at p c) p) ∷ []) p in
    let failed : are_no_falls (drop 1 (moves_failed c p)) ≡ true = openings_fall_none (due_openings q) (next_number q) in
    elim (is_done answer) as (λ b. are_no_falls (drop 1 (cond b (moves_opened c p) (moves_failed c p))) ≡ true) [ true ↦ opened | false ↦ failed ]
answered_later answer c p (Some Closing) = let q = made (Gone c ∷ []) p in openings_fall_none (due_openings q) (next_number q)
answered_later answer c p _ = refl

pub left_falls_none : (H : List Event) (m : Move) (ms : List Move) → are_no_falls (drop 1 ms) ≡ true → are_no_falls (left_of H m ms) ≡ true
left_falls_none H m [] h = fewer_fall_none (leaving H m) (leaving_falls_none H m)
left_falls_none H m (due ∷ later) h = h

-- No fall comes after the first owed move.
pub later_falls_none : (H : List Event) → are_no_falls (drop 1 (owed H)) ≡ true
later_falls_none [] = refl
later_falls_none (Entered client n DbClose ∷ H) = fewer_fall_none (owed (Entered client n DbClose ∷ H)) (closings_fall_none DbClosed (shut (pool H)).idle)
later_falls_none (Heard e ∷ H) = answered_later e.answer e.conn (pool H) (place H e.conn)
later_falls_none (Pool m ∷ H) = fewer_fall_none (left_of H m (owed H)) (left_falls_none H m (owed H) (later_falls_none H))
later_falls_none (Ticked now ∷ H) = fewer_fall_none (controlled (Tick now) (pool H)) (control_falls_none (Tick now) (pool H))
later_falls_none (SetLimit s n ∷ H) = fewer_fall_none (controlled (Set s n) (pool H)) (control_falls_none (Set s n) (pool H))
later_falls_none (Ended ∷ H) = fewer_fall_none (owed (Ended ∷ H)) (closings_fall_none DbClosed (shut (pool H)).idle)
later_falls_none (_ ∷ H) = refl

-- A fall can't come next if moves are owed and none of them is a fall.
pub first_falls : (ms : List Move) (c n : ℕ) → are_no_falls ms ≡ true → follows ms (Pool (Fell c n)) ≡ true → not (is_empty ms) ≡ true → ⊥
first_falls [] c n none h some = cc
first_falls (m ∷ ms) c n none h some =
    let same : m ≡ Fell c n = move_is m (Fell c n) h in
    let a = both (is_no_fall m) (are_no_falls ms) none in
    let clash : false ≡ true = sym (ap is_no_fall same) ∙ a.0 in
    cc

abbrev fallen : Move → ℕ
fallen (Fell c n) = n
fallen _ = 0

abbrev fallen_from : Move → ℕ
fallen_from (Fell c n) = c
fallen_from _ = 0

-- Holds if the connection was being opened, and its refusal falls to the call that the pool names.
pub record FallsTo (H : List Event) (c n : ℕ) : Type 0 where
  pub wanted : Option Owner
  pub opening : place H c ≡ Some (Opening wanted)
  pub to : n ≡ falls_to (Some (Opening wanted)) (pool H)

answered_falls : (H : List Event) (e : Entry) (c n : ℕ) (at : Option Place) → place H e.conn ≡ at → follows (answered e.answer e.conn (pool H) at) (Pool (Fell c n)) ≡ true
    → not (is_empty (answered e.answer e.conn (pool H) at)) ≡ true → FallsTo (Heard e ∷ H) c n
answered_falls H e c n (Some (Opening wanted)) is h some = by (is_done e.answer) h some
  where
    by : (b : Bool) → follows (cond b (moves_opened e.conn (pool H)) (moves_failed e.conn (pool H))) (Pool (Fell c n)) ≡ true
        → not (is_empty (cond b (moves_opened e.conn (pool H)) (moves_failed e.conn (pool H)))) ≡ true → FallsTo (Heard e ∷ H) c n
    by true k first = absurd (first_falls (moves_opened e.conn (pool H)) c n (opened_falls_none e.conn (pool H) (place_at (pool H) e.conn)) k first)
    by false k first =
        let same : Fell e.conn (falls_to (place_at (pool H) e.conn) (pool H)) ≡ Fell c n = move_is (Fell e.conn (falls_to (place_at (pool H) e.conn) (pool H))) (Fell c n) k in
        record {
          wanted = wanted;
          opening = ap (place H) (sym (ap fallen_from same)) ∙ is;
          to = sym (ap fallen same) ∙ ap (λ at. falls_to at (pool H)) is;
        }
answered_falls H e c n _ is h some = absurd cc

pub falls : (H : List Event) (c n : ℕ) → Allowed H (Pool (Fell c n)) → FallsTo H c n
falls H c n a = let k = keeps_of H (Pool (Fell c n)) a in by H k.order k.causes
  where
    by : (K : List Event) → follows (owed K) (Pool (Fell c n)) ≡ true → not (is_empty (owed K)) ≡ true → FallsTo K c n
    by (Heard e ∷ K) h some = answered_falls K e c n (place K e.conn) refl h some
    by (Entered client m DbClose ∷ K) h some = absurd (first_falls (owed (Entered client m DbClose ∷ K)) c n (closings_fall_none DbClosed (shut (pool K)).idle) h some)
    by (Pool m ∷ K) h some = absurd (first_falls (left_of K m (owed K)) c n (left_falls_none K m (owed K) (later_falls_none K)) h some)
    by (Ticked now ∷ K) h some = absurd (first_falls (controlled (Tick now) (pool K)) c n (control_falls_none (Tick now) (pool K)) h some)
    by (SetLimit s k ∷ K) h some = absurd (first_falls (controlled (Set s k) (pool K)) c n (control_falls_none (Set s k) (pool K)) h some)
    by (Ended ∷ K) h some = absurd (first_falls (owed (Ended ∷ K)) c n (closings_fall_none DbClosed (shut (pool K)).idle) h some)
    by _ h some = absurd cc
