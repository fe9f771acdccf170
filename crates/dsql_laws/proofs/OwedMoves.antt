-- Proves that each opening which the pool owes is for no call: its call number is 0.
use Rattle.std.proofs.Common.{◌≡◌, ℕ, ◌==◌, Bool, true, List, [], ◌∷◌, refl, zero, suc, ◌+◌, ◌-◌, false, cond, ◌∙◌, Option, Some, None}
use Rattle.std.specs.List.{list_all}
use Rattle.dsql_history.specs.wait.declared.request.Request.{Request}
use Rattle.dsql_history.specs.pool.declared.moves.Move.{Move}
use Rattle.dsql_history.specs.pool.declared.moves.Move.TheVariants.{OpenStart, Back, CloseStart, Gone, Fell}
use Rattle.dsql_history.specs.pool.declared.moves.Outcome.{Outcome}
use Rattle.dsql_history.specs.pool.declared.moves.Outcome.TheVariants.{Serves}
use Rattle.dsql_history.specs.pool.Pooled.{Pooled, next_tenure, place_at, next_number}
use Rattle.dsql_history.specs.pool.Decisions.{lends_to_oldest, moves_back, closings_of_setting, falls_to, openings, due_openings, moves_unwanted, when_given_back, when_unwanted, when_opened}
use Rattle.std.specs.Prelude.{map, drop, take, length}
use Rattle.std.proofs.lemmas.List.Folds.{list_all-append}
use Rattle.dsql_history.specs.driver.declared.answer.DriverAnswer.{DriverAnswer}
use Rattle.dsql_history.specs.driver.Fits.{is_done}
use Rattle.dsql_history.specs.pool.declared.conn.Place.{Place}
use Rattle.dsql_history.specs.pool.declared.conn.Place.TheVariants.{Opening, Closing}
use Rattle.dsql_history.specs.pool.declared.moves.CloseCause.{CloseCause}
use Rattle.dsql_history.specs.pool.declared.moves.CloseCause.TheVariants.{IdleFull, DbClosed}
use Rattle.dsql_history.specs.pool.Moved.{made, moved, shut, ticked}
use Rattle.dsql_history.specs.pool.Calls.{then_openings, moves_opened, moves_failed, open_set, idle_set, lifetime_set, idle_time_set}
use Rattle.dsql_history.specs.declared.event.Control.{Control}
use Rattle.dsql_history.specs.declared.event.Setting.TheVariants.{MaxOpen, MaxIdle, MaxLife, MaxIdleTime}
use Rattle.dsql_history.specs.declared.event.Control.TheVariants.{Tick, Set}
use Rattle.dsql_history.specs.Readers.Owed.{answered, controlled, fate, leaving, left_of, owed}
use Rattle.dsql_history.specs.declared.event.Event.{Event}
use Rattle.dsql_history.specs.declared.event.Event.TheVariants.{Entered, Heard, Pool, Ticked, SetLimit, Ended}
use Rattle.dsql_history.specs.declared.event.Op.TheVariants.{DbClose}
use Rattle.dsql_history.specs.Readers.Pool.{pool, place, with_move}
use Rattle.dsql_laws.proofs.Tests.{both, same_number, together}
use Rattle.dsql_laws.proofs.Outdated.{outdated_all}

-- Is true unless the move is an opening for a call.
abbrev pub is_own : Move → Bool
is_own (OpenStart c n) = n == 0
is_own _ = true

abbrev pub are_own : List Move → Bool
are_own ms = list_all is_own ms

oldest_own : (c t : ℕ) (rs : List Request) → are_own (lends_to_oldest c t rs) ≡ true
oldest_own c t [] = refl
oldest_own c t (r ∷ rs) = refl

pub back_own : (c : ℕ) (p : Pooled) (o : Outcome) → are_own (moves_back c p o) ≡ true
back_own c p Serves = oldest_own c (next_tenure p c) p.waiting
back_own c p _ = refl

pub own_moved : (H : List Event) (m : Move) (p : Pooled) → is_own m ≡ true → with_move H m p ≡ moved m p
own_moved H (OpenStart c n) p h = let none : n ≡ 0 = same_number n 0 h in rw none refl
own_moved H _ p h = refl

openings_own : (k c : ℕ) → are_own (openings k c) ≡ true
openings_own zero c = refl
openings_own (suc k) c = openings_own k (c + 1)

then_own : (ms : List Move) (p : Pooled) → are_own ms ≡ true → are_own (then_openings ms p) ≡ true
then_own ms p h =
    list_all-append is_own ms (openings (due_openings (made ms p)) (next_number (made ms p)))
    ∙ together (are_own ms) (are_own (openings (due_openings (made ms p)) (next_number (made ms p)))) h (openings_own (due_openings (made ms p)) (next_number (made ms p)))

closings_own : (why : CloseCause) (cs : List ℕ) → are_own (map (λ c. CloseStart c why) cs) ≡ true
closings_own why [] = refl
closings_own why (c ∷ cs) = closings_own why cs

unwanted_own : (c : ℕ) (p : Pooled) (o : Outcome) → are_own (moves_unwanted c p o) ≡ true
unwanted_own c p Serves = oldest_own c (next_tenure p c) p.waiting
unwanted_own c p _ = refl

opened_own : (c : ℕ) (p : Pooled) (at : Option Place) → are_own (when_opened at c p) ≡ true
opened_own c p (Some (Opening None)) = unwanted_own c p (when_unwanted p)
opened_own c p _ = refl

either_own : (b : Bool) (ms ns : List Move) → are_own ms ≡ true → are_own ns ≡ true → are_own (cond b ms ns) ≡ true
either_own true ms ns h k = h
either_own false ms ns h k = k

answered_own : (answer : DriverAnswer) (c : ℕ) (p : Pooled) (at : Option Place) → are_own (answered answer c p at) ≡ true
answered_own answer c p (Some (Opening wanted)) =
    either_own (is_done answer) (moves_opened c p) (moves_failed c p) (opened_own c p (place_at p c)) (then_own (Fell c (falls_to (place_at p c) p) ∷ []) p refl)
answered_own answer c p (Some Closing) = then_own (Gone c ∷ []) p refl
answered_own answer c p _ = refl

surplus_own : (p : Pooled) → are_own (closings_of_setting p) ≡ true
surplus_own p = closings_own IdleFull (take (length p.idle - p.limits.max_idle) p.idle)

control_own : (control : Control) (p : Pooled) → are_own (controlled control p) ≡ true
control_own (Tick n) p = outdated_all is_own (λ c why. refl) (ticked n p)
control_own (Set MaxOpen n) p = then_own (closings_of_setting (open_set n p)) (open_set n p) (surplus_own (open_set n p))
control_own (Set MaxIdle n) p = surplus_own (idle_set n p)
control_own (Set MaxLife n) p = outdated_all is_own (λ c why. refl) (lifetime_set n p)
control_own (Set MaxIdleTime n) p = outdated_all is_own (λ c why. refl) (idle_time_set n p)

fewer_own : (ms : List Move) → are_own ms ≡ true → are_own (drop 1 ms) ≡ true
fewer_own [] h = refl
fewer_own (m ∷ ms) h = let a = both (is_own m) (are_own ms) h in a.1

leaving_own : (H : List Event) (m : Move) → are_own (leaving H m) ≡ true
leaving_own H (Back c) = back_own c (pool H) (when_given_back (fate H c) c (pool H))
leaving_own H (CloseStart c why) = back_own c (pool H) (when_given_back (fate H c) c (pool H))
leaving_own H _ = refl

left_own : (H : List Event) (m : Move) (ms : List Move) → are_own ms ≡ true → are_own (left_of H m ms) ≡ true
left_own H m [] h = fewer_own (leaving H m) (leaving_own H m)
left_own H m (due ∷ later) h = let a = both (is_own due) (are_own later) h in a.1

pub owed_own : (H : List Event) → are_own (owed H) ≡ true
owed_own (Entered client n DbClose ∷ H) = closings_own DbClosed (shut (pool H)).idle
owed_own (Heard e ∷ H) = answered_own e.answer e.conn (pool H) (place H e.conn)
owed_own (Pool m ∷ H) = left_own H m (owed H) (owed_own H)
owed_own (Ticked now ∷ H) = control_own (Tick now) (pool H)
owed_own (SetLimit s n ∷ H) = control_own (Set s n) (pool H)
owed_own (Ended ∷ H) = closings_own DbClosed (shut (pool H)).idle
owed_own _ = refl
