-- A bound on the number of moves that the pool owes.
use Rattle.std.proofs.Common.{◌≡◌, ℕ, zero, suc, ◌+◌, ◌-◌, ◌≤◌, Bool, true, false, cond, List, [], ◌∷◌, length, take, drop, Option, Some, None, refl, ap, length-append, arith}
use Rattle.std.specs.List.{filter_map, cons_option}
use Rattle.std.proofs.lemmas.List.{length-map}
use Rattle.dsql_laws.specs.driver.Fits.{is_done}
use Rattle.dsql_laws.specs.driver.declared.answer.DriverAnswer.{DriverAnswer}
use Rattle.dsql_laws.specs.journal.Readers.{is_empty}
use Rattle.dsql_laws.specs.wait.declared.request.Request.{Request}
use Rattle.dsql_laws.specs.pool.declared.conn.Place.{Place}
use Rattle.dsql_laws.specs.pool.declared.conn.Place.TheVariants.{Opening, Closing}
use Rattle.dsql_laws.specs.pool.declared.moves.Move.{Move}
use Rattle.dsql_laws.specs.pool.declared.moves.Move.TheVariants.{Back, CloseStart, Gone, Fell}
use Rattle.dsql_laws.specs.pool.declared.moves.CloseCause.{CloseCause}
use Rattle.dsql_laws.specs.pool.declared.moves.CloseCause.TheVariants.{DbClosed, IdleFull}
use Rattle.dsql_laws.specs.pool.declared.moves.Outcome.{Outcome}
use Rattle.dsql_laws.specs.pool.declared.moves.Outcome.TheVariants.{Serves}
use Rattle.dsql_laws.specs.pool.Calls.{then_openings, moves_opened, moves_failed, moves_closed, open_set, idle_set, lifetime_set, idle_time_set}
use Rattle.dsql_laws.specs.pool.Decisions.{openings, due_openings, lends_to_oldest, moves_back, moves_unwanted, when_opened, when_unwanted, when_given_back, falls_to, closings_of_setting, closings_of_tick, closing_for, cause_at}
use Rattle.dsql_laws.specs.pool.Moved.{made, ticked}
use Rattle.dsql_laws.specs.pool.Places.{conn_of}
use Rattle.dsql_laws.specs.pool.Pooled.{Pooled, next_tenure, most_open, place_at}
use Rattle.dsql_laws.specs.pool.Rest.{AtRest}
use Rattle.dsql_laws.specs.history.declared.event.Control.{Control}
use Rattle.dsql_laws.specs.history.declared.event.Setting.TheVariants.{MaxOpen, MaxIdle, MaxLife, MaxIdleTime}
use Rattle.dsql_laws.specs.history.declared.event.Control.TheVariants.{Tick, Set}
use Rattle.dsql_laws.specs.history.Readers.Owed.{answered, controlled, fate, given_back, leaving, left_of, owed}
use Rattle.dsql_laws_calls.specs.Bounds.{most_moves, most_given_back}
use Rattle.dsql_laws_calls.proofs.Open.{few_idle, room_most, few_open}
use Rattle.dsql_laws.specs.history.declared.event.Event.{Event}
use Rattle.dsql_laws.specs.history.declared.event.Event.TheVariants.{Run, Entered, Heard, Pool, Waits, Ticked, SetLimit, Replied, Ended}
use Rattle.dsql_laws.specs.history.declared.event.Op.TheVariants.{DbClose}
use Rattle.dsql_laws.specs.history.Readers.Pool.{pool, place}
use Rattle.dsql_laws.specs.history.Rules.Settled.{owes_nothing}
use Rattle.dsql_laws.specs.history.Legal.{Lawful}
use Rattle.dsql_laws.proofs.AtRest.{rests_owing_nothing, before_event, rested}

length_openings : (k c : ℕ) → length (openings k c) ≡ k
length_openings zero c = refl
length_openings (suc k) c = ap suc (length_openings k (c + 1))

few_openings : (p : Pooled) → due_openings p ≤ most_open
few_openings p = let most = room_most p in omega (arith, most)

then_few : (ms : List Move) (p : Pooled) (k : ℕ) → length ms ≤ k → length (then_openings ms p) ≤ k + most_open
then_few ms p k h =
    let q = made ms p in
    let split = length-append ms (openings (due_openings q) (q.opened + 1)) in
    let count = length_openings (due_openings q) (q.opened + 1) in
    let few = few_openings q in
    omega (arith, split, count, few, h)

oldest_few : (c t : ℕ) (rs : List Request) → length (lends_to_oldest c t rs) ≤ 1
oldest_few c t [] = omega arith
oldest_few c t (r ∷ rs) = omega arith

back_few : (c : ℕ) (p : Pooled) (o : Outcome) → length (moves_back c p o) ≤ most_given_back
back_few c p Serves = let few = oldest_few c (next_tenure p c) p.waiting in omega (arith, few)
back_few c p _ = omega arith

pub few_given_back : (H : List Event) (c : ℕ) → length (given_back H c) ≤ most_given_back
few_given_back H c = back_few c (pool H) (when_given_back (fate H c) c (pool H))

unwanted_few : (c : ℕ) (p : Pooled) (o : Outcome) → length (moves_unwanted c p o) ≤ 1
unwanted_few c p Serves = oldest_few c (next_tenure p c) p.waiting
unwanted_few c p _ = omega arith

opened_few : (c : ℕ) (p : Pooled) (at : Option Place) → length (when_opened at c p) ≤ 1
opened_few c p (Some (Opening (Some owner))) = omega arith
opened_few c p (Some (Opening None)) = unwanted_few c p (when_unwanted p)
opened_few c p _ = omega arith

either_few : (b : Bool) (ms ns : List Move) → length ms ≤ most_moves → length ns ≤ most_moves → length (cond b ms ns) ≤ most_moves
either_few true ms ns h k = h
either_few false ms ns h k = k

answered_few : (answer : DriverAnswer) (c : ℕ) (p : Pooled) (at : Option Place) → length (answered answer c p at) ≤ most_moves
answered_few answer c p (Some (Opening wanted)) =
    let one = opened_few c p (place_at p c) in
    let opened : length (moves_opened c p) ≤ most_moves = omega (arith, one) in
    let fell = then_few (Fell c (falls_to (place_at p c) p) ∷ []) p 1 (omega arith) in
    let failed : length (moves_failed c p) ≤ most_moves = omega (arith, fell) in
    either_few (is_done answer) (moves_opened c p) (moves_failed c p) opened failed
answered_few answer c p (Some Closing) = let few = then_few (Gone c ∷ []) p 1 (omega arith) in omega (arith, few)
answered_few answer c p _ = omega arith

closed_few : (p : Pooled) → length p.idle ≤ most_open → length (moves_closed p) ≤ most_moves
closed_few p h = let same = length-map p.idle (λ c. CloseStart c DbClosed) in omega (arith, same, h)

length_take : {A : Type 0} (k : ℕ) (xs : List A) → length (take k xs) ≤ length xs
length_take zero xs = omega arith
length_take (suc k) [] = omega arith
length_take (suc k) (x ∷ xs) = let rest = length_take k xs in omega (arith, rest)

surplus_few : (p : Pooled) → length (closings_of_setting p) ≤ length p.idle
surplus_few p =
    let k = length p.idle - p.limits.max_idle in
    let same = length-map (take k p.idle) (λ c. CloseStart c IdleFull) in
    let few = length_take k p.idle in
    omega (arith, same, few)

chosen_few : (g : ℕ → Option CloseCause) (cs : List ℕ) → length (filter_map (λ c. closing_for c (g c)) cs) ≤ length cs
chosen_few g [] = omega arith
chosen_few g (c ∷ cs) =
    let few = chosen_few g cs in
    elim (g c) as (λ (o : Option CloseCause). length (cons_option (closing_for c o) (filter_map (λ d. closing_for d (g d)) cs)) ≤ length (c ∷ cs)) [
      | None ↦ omega (arith, few)
      | Some why ↦ omega (arith, few)
    ]

outdated_few : (p : Pooled) → length (closings_of_tick p) ≤ length p.idle
outdated_few p = chosen_few (λ c. cause_at p.limits p.moment (conn_of c p.conns)) p.idle

control_few : (control : Control) (p : Pooled) → length p.idle ≤ most_open → length (controlled control p) ≤ most_moves
control_few (Tick n) p h = let few = outdated_few (ticked n p) in omega (arith, few, h)
control_few (Set MaxOpen n) p h =
    let surplus = surplus_few (open_set n p) in
    then_few (closings_of_setting (open_set n p)) (open_set n p) most_open (omega (arith, surplus, h))
control_few (Set MaxIdle n) p h = let surplus = surplus_few (idle_set n p) in omega (arith, surplus, h)
control_few (Set MaxLife n) p h = let few = outdated_few (lifetime_set n p) in omega (arith, few, h)
control_few (Set MaxIdleTime n) p h = let few = outdated_few (idle_time_set n p) in omega (arith, few, h)

drop_few : {A : Type 0} (xs : List A) → length (drop 1 xs) ≤ length xs
drop_few [] = omega arith
drop_few (x ∷ xs) = omega arith

leaving_few : (H : List Event) (m : Move) → length (leaving H m) ≤ most_given_back
leaving_few H (Back c) = few_given_back H c
leaving_few H (CloseStart c why) = few_given_back H c
leaving_few H _ = omega arith

left_few : (H : List Event) (m : Move) (ms : List Move) → length ms ≤ most_moves → length (left_of H m ms) ≤ most_moves
left_few H m [] h = let few = leaving_few H m in let less = drop_few (leaving H m) in omega (arith, few, less)
left_few H m (due ∷ later) h = omega (arith, h)

-- If at most as many connections are idle as may be open, an event makes few moves due.
next_few : (H : List Event) (e : Event) → length (pool H).idle ≤ most_open → length (owed H) ≤ most_moves → length (owed (e ∷ H)) ≤ most_moves
next_few H (Entered client n DbClose) h k = closed_few (pool H) h
next_few H (Heard e) h k = answered_few e.answer e.conn (pool H) (place H e.conn)
next_few H (Pool m) h k = left_few H m (owed H) k
next_few H (Ticked now) h k = control_few (Tick now) (pool H) h
next_few H (SetLimit s n) h k = control_few (Set s n) (pool H) h
next_few H Ended h k = closed_few (pool H) h
next_few H _ h k = omega arith

idle_below : (H : List Event) → Lawful H → AtRest (pool H) → length (pool H).idle ≤ most_open
idle_below H l rest = let opened = few_open H l in let idle = few_idle (pool H) rest in omega (arith, opened, idle)

none_few : (ms : List Move) → is_empty ms ≡ true → length ms ≤ most_moves
none_few [] h = omega arith
none_few (m ∷ ms) h = absurd cc

pub few_next : (H : List Event) (e : Event) → Lawful H → owes_nothing H ≡ true → length (owed (e ∷ H)) ≤ most_moves
few_next H e l none = next_few H e (idle_below H l (rests_owing_nothing H l none)) (none_few (owed H) none)

pub few_owed : (H : List Event) → Lawful H → length (owed H) ≤ most_moves
few_owed [] l = omega arith
few_owed (Pool m ∷ H) l = left_few H m (owed H) (few_owed H l.0)
few_owed (Run version can ∷ H) l = omega arith
few_owed (Waits n ∷ H) l = omega arith
few_owed (Replied n reply ∷ H) l = omega arith
few_owed (e1 ∷ H) l = next_few H e1 (idle_below H l.0 (before_event H e1 refl l.1 (rested H l.0))) (few_owed H l.0)
