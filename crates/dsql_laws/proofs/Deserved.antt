-- Proves that each lending which the pool owes goes to a call that waits, or for which the connection was
-- opened.
use Rattle.std.proofs.Common.{◌≡◌, ℕ, Bool, true, List, [], ◌∷◌, ◌⊎◌, zero, suc, ◌+◌, ◌==◌, ◌-◌, false, ◌||◌, cond, length, map, Option, Some, None, refl, sym, ap, subst, ◌∙◌, inl, inr, arith}
use Rattle.dsql_history.specs.wait.Requests.{waits}
use Rattle.dsql_history.specs.pool.declared.conn.Conn.{Conn}
use Rattle.dsql_history.specs.pool.declared.moves.Move.{Move}
use Rattle.dsql_history.specs.pool.declared.moves.Move.TheVariants.{Lend, Back, CloseStart, Gone, Fell}
use Rattle.dsql_history.specs.pool.Places.{conn_of}
use Rattle.dsql_history.specs.pool.Pooled.{Pooled, place_at, next_tenure, next_number}
use Rattle.dsql_history.specs.pool.Moved.{moved, made, shut, ticked}
use Rattle.dsql_history.proofs.pool.Frees.{passing}
use Rattle.dsql_history.specs.Readers.Pool.{place, is_home, with_control, pool, with_move}
use Rattle.std.specs.Prelude.{drop, take}
use Rattle.std.specs.List.{list_all}
use Rattle.std.specs.Option.{option_map}
use Rattle.std.proofs.lemmas.Bool.Decides.{nat_tests}
use Rattle.std.proofs.lemmas.List.Folds.{list_all-append}
use Rattle.dsql_history.specs.driver.declared.answer.DriverAnswer.{DriverAnswer}
use Rattle.dsql_history.specs.driver.Fits.{is_done}
use Rattle.dsql_history.specs.journal.declared.entry.Owner.{Owner}
use Rattle.dsql_history.specs.wait.declared.request.Request.{Request}
use Rattle.dsql_history.specs.pool.declared.conn.Place.{Place}
use Rattle.dsql_history.specs.pool.declared.conn.Place.TheVariants.{Idle, Opening, Closing}
use Rattle.dsql_history.specs.pool.declared.moves.CloseCause.{CloseCause}
use Rattle.dsql_history.specs.pool.declared.moves.CloseCause.TheVariants.{IdleFull, DbClosed}
use Rattle.dsql_history.specs.pool.declared.moves.Outcome.{Outcome}
use Rattle.dsql_history.specs.pool.declared.moves.Outcome.TheVariants.{Serves}
use Rattle.dsql_history.specs.journal.Kinds.{number_of}
use Rattle.dsql_history.specs.pool.Decisions.{closings_of_setting, falls_to, openings, due_openings, lends_to_oldest, moves_back, moves_unwanted, when_given_back, when_unwanted, when_opened}
use Rattle.dsql_history.specs.pool.Calls.{then_openings, moves_opened, moves_failed, open_set, idle_set, lifetime_set, idle_time_set}
use Rattle.dsql_history.specs.declared.event.Control.{Control}
use Rattle.dsql_history.specs.declared.event.Setting.TheVariants.{MaxOpen, MaxIdle, MaxLife, MaxIdleTime}
use Rattle.dsql_history.specs.declared.event.Control.TheVariants.{Tick, Set}
use Rattle.dsql_history.specs.Same.{is_first}
use Rattle.dsql_history.specs.Readers.Owed.{answered, controlled, fate, given_back, leaving, left_of, owed}
use Rattle.dsql_history.specs.declared.event.Event.{Event}
use Rattle.dsql_history.specs.declared.event.Event.TheVariants.{Entered, Heard, Pool, Ticked, SetLimit, Ended}
use Rattle.dsql_history.specs.declared.event.Op.TheVariants.{DbClose}
use Rattle.dsql_history.specs.Rules.Order.{follows}
use Rattle.dsql_history.specs.Rules.Causes.{is_owed, is_given_back}
use Rattle.dsql_history.specs.Legal.{Lawful}
use Rattle.dsql_laws.proofs.Tests.{both, second, together, move_is}
use Rattle.dsql_laws.proofs.Outdated.{outdated_all}
use Rattle.dsql_laws.proofs.OwedMoves.{is_own, are_own, own_moved, owed_own}
use Rattle.dsql_laws.proofs.AtRest.{Keeps, keeps_of, owes, given_so}

-- Is true if the connection is lent to call n or is being opened for it.
abbrev pub is_home_of : ℕ → Conn → Bool
is_home_of n x = is_home n x.place

-- Holds if call n waits, or connection c is lent to it or is being opened for it.
abbrev pub Deserves : ℕ → ℕ → Pooled → Type 0
Deserves c n p = (waits n p.waiting ≡ true) ⊎ (passing (is_home_of n) (conn_of c p.conns) ≡ 1)

-- Holds if each lending among these moves is deserved when its turn comes.
abbrev pub AllDeserved : List Move → Pooled → Type 0
AllDeserved [] p = Unit {0}
AllDeserved (Lend c t o n ∷ ms) p = Deserves c n p × AllDeserved ms (moved (Lend c t o n) p)
AllDeserved (m ∷ ms) p = AllDeserved ms (moved m p)

after_first : (m : Move) (ms : List Move) (p : Pooled) → AllDeserved (m ∷ ms) p → AllDeserved ms (moved m p)
after_first (Lend c t o n) ms p h = h.1
after_first _ ms p h = h

abbrev is_no_lending : Move → Bool
is_no_lending (Lend c t o n) = false
is_no_lending _ = true

abbrev are_no_lendings : List Move → Bool
are_no_lendings ms = list_all is_no_lending ms

without_lendings : (ms : List Move) (p : Pooled) → are_no_lendings ms ≡ true → AllDeserved ms p
without_lendings [] p h = tt
without_lendings (Lend c t o n ∷ ms) p h = absurd cc
without_lendings (e ∷ ms) p h = without_lendings ms (moved e p) h

openings_lend_none : (k c : ℕ) → are_no_lendings (openings k c) ≡ true
openings_lend_none zero c = refl
openings_lend_none (suc k) c = openings_lend_none k (c + 1)

then_lend_none : (ms : List Move) (p : Pooled) → are_no_lendings ms ≡ true → are_no_lendings (then_openings ms p) ≡ true
then_lend_none ms p h =
    let k = due_openings (made ms p) in
    let c = next_number (made ms p) in
    list_all-append is_no_lending ms (openings k c) ∙ together (are_no_lendings ms) (are_no_lendings (openings k c)) h (openings_lend_none k c)

closings_lend_none : (why : CloseCause) (cs : List ℕ) → are_no_lendings (map (λ c. CloseStart c why) cs) ≡ true
closings_lend_none why [] = refl
closings_lend_none why (c ∷ cs) = closings_lend_none why cs

surplus_lends_none : (p : Pooled) → are_no_lendings (closings_of_setting p) ≡ true
surplus_lends_none p = closings_lend_none IdleFull (take (length p.idle - p.limits.max_idle) p.idle)

itself : (n : ℕ) → (n == n) ≡ true
itself n = grind (arith, nat_tests)

oldest_deserved : (c t : ℕ) (p : Pooled) (rs : List Request) → p.waiting ≡ rs → AllDeserved (lends_to_oldest c t rs) p
oldest_deserved c t p [] is = tt
oldest_deserved c t p (r ∷ rs) is =
    let first : waits r.call (r ∷ rs) ≡ true = ap (λ b. b || waits r.call rs) (itself r.call) in
    (inl (ap (λ qs. waits r.call qs) is ∙ first), tt)

unwanted_deserved : (c : ℕ) (p : Pooled) (o : Outcome) → AllDeserved (moves_unwanted c p o) p
unwanted_deserved c p Serves = oldest_deserved c (next_tenure p c) p p.waiting refl
unwanted_deserved c p _ = tt

back_deserved : (c : ℕ) (p : Pooled) (o : Outcome) → AllDeserved (moves_back c p o) p
back_deserved c p Serves = oldest_deserved c (next_tenure p c) (moved (Back c) p) p.waiting refl
back_deserved c p _ = tt

abbrev place_or : Option Place → Place
place_or None = Idle
place_or (Some it) = it

home_found : (owner : Owner) (o : Option Conn) → option_map (λ x. x.place) o ≡ Some (Opening (Some owner)) → passing (is_home_of (number_of owner)) o ≡ 1
home_found owner None is = absurd cc
home_found owner (Some x) is =
    let at : x.place ≡ Opening (Some owner) = ap place_or is in
    ap (λ (at : Place). cond {A = ℕ} (is_home (number_of owner) at) 1 0) at ∙ ap (λ (b : Bool). cond {A = ℕ} b 1 0) (itself (number_of owner))

opened_deserved : (c : ℕ) (p : Pooled) (at : Option Place) → place_at p c ≡ at → AllDeserved (when_opened at c p) p
opened_deserved c p (Some (Opening (Some owner))) is = (inr (home_found owner (conn_of c p.conns) is), tt)
opened_deserved c p (Some (Opening None)) is = unwanted_deserved c p (when_unwanted p)
opened_deserved c p _ is = tt

answered_deserved : (answer : DriverAnswer) (c : ℕ) (p : Pooled) (at : Option Place) → AllDeserved (answered answer c p at) p
answered_deserved answer c p (Some (Opening wanted)) =
    let opened : AllDeserved (moves_opened c p) p = opened_deserved c p (place_at p c) refl in
    let failed : AllDeserved (moves_failed c p) p = without_lendings (moves_failed c p) p (then_lend_none (Fell c (falls_to (place_at p c) p) ∷ []) p refl) in
    elim (is_done answer) as (λ b. AllDeserved (cond b (moves_opened c p) (moves_failed c p)) p) [ true ↦ opened | false ↦ failed ]
answered_deserved answer c p (Some Closing) = without_lendings (then_openings (Gone c ∷ []) p) p (then_lend_none (Gone c ∷ []) p refl)
answered_deserved answer c p _ = tt

control_deserved : (control : Control) (p : Pooled) → AllDeserved (controlled control p) (with_control control p)
control_deserved (Tick n) p = without_lendings (controlled (Tick n) p) (ticked n p) (outdated_all is_no_lending (λ c why. refl) (ticked n p))
control_deserved (Set MaxOpen n) p = without_lendings (controlled (Set MaxOpen n) p) (open_set n p) (then_lend_none (closings_of_setting (open_set n p)) (open_set n p) (surplus_lends_none (open_set n p)))
control_deserved (Set MaxIdle n) p = without_lendings (controlled (Set MaxIdle n) p) (idle_set n p) (surplus_lends_none (idle_set n p))
control_deserved (Set MaxLife n) p = without_lendings (controlled (Set MaxLife n) p) (lifetime_set n p) (outdated_all is_no_lending (λ c why. refl) (lifetime_set n p))
control_deserved (Set MaxIdleTime n) p = without_lendings (controlled (Set MaxIdleTime n) p) (idle_time_set n p) (outdated_all is_no_lending (λ c why. refl) (idle_time_set n p))

rest_deserved : (ms : List Move) (m : Move) (p : Pooled) → is_first ms m ≡ true → AllDeserved ms p → AllDeserved (drop 1 ms) (moved m p)
rest_deserved [] m p is h = absurd cc
rest_deserved (k ∷ ms) m p is h = subst (λ j. AllDeserved ms (moved j p)) (move_is k m is) (after_first k ms p h)

leaving_deserved : (H : List Event) (c : ℕ) (m : Move) → is_given_back H c m ≡ true → AllDeserved (drop 1 (given_back H c)) (moved m (pool H))
leaving_deserved H c m is =
    let a = given_so H c m is in
    rest_deserved (given_back H c) m (pool H) a.1 (back_deserved c (pool H) (when_given_back (fate H c) c (pool H)))

unowed_deserved : (H : List Event) (m : Move) → Keeps H (Pool m) → owed H ≡ [] → AllDeserved (drop 1 (leaving H m)) (with_move H m (pool H))
unowed_deserved H (Back c) k none = leaving_deserved H c (Back c) (second (is_owed H) (is_given_back H c (Back c)) (owes H none) k.causes)
unowed_deserved H (CloseStart c why) k none = leaving_deserved H c (CloseStart c why) (second (is_owed H) (is_given_back H c (CloseStart c why)) (owes H none) k.causes)
unowed_deserved H _ k none = tt

move_deserved : (H : List Event) (m : Move) (ms : List Move) → Keeps H (Pool m) → owed H ≡ ms → are_own ms ≡ true → AllDeserved ms (pool H) → AllDeserved (left_of H m ms) (with_move H m (pool H))
move_deserved H m [] k is own h = unowed_deserved H m k is
move_deserved H m (due ∷ later) k is own h =
    let made_it : follows (due ∷ later) (Pool m) ≡ true = subst (λ ns. follows ns (Pool m) ≡ true) is k.order in
    let same : due ≡ m = move_is due m made_it in
    let a = both (is_own due) (are_own later) own in
    let begun_so : with_move H due (pool H) ≡ moved due (pool H) = own_moved H due (pool H) a.0 in
    subst (λ j. AllDeserved later (with_move H j (pool H))) same (subst (λ q. AllDeserved later q) (sym begun_so) (after_first due later (pool H) h))

pub deserved : (H : List Event) → Lawful H → AllDeserved (owed H) (pool H)
deserved (Entered client n DbClose ∷ H) l = without_lendings (owed (Entered client n DbClose ∷ H)) (shut (pool H)) (closings_lend_none DbClosed (shut (pool H)).idle)
deserved (Heard e ∷ H) l = answered_deserved e.answer e.conn (pool H) (place H e.conn)
deserved (Pool m ∷ H) l = move_deserved H m (owed H) (keeps_of H (Pool m) l.1) refl (owed_own H) (deserved H l.0)
deserved (Ticked now ∷ H) l = control_deserved (Tick now) (pool H)
deserved (SetLimit s n ∷ H) l = control_deserved (Set s n) (pool H)
deserved (Ended ∷ H) l = without_lendings (owed (Ended ∷ H)) (shut (pool H)) (closings_lend_none DbClosed (shut (pool H)).idle)
deserved _ l = tt
