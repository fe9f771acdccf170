-- A connection that was opened for a call is lent to that call only. The argument goes through the moves that
-- each event makes due.
use Rattle.std.proofs.Common.{ℕ, ◌==◌, Bool, true, Option, Some, ◌≡◌, zero, suc, ◌+◌, false, ◌&&◌, cond, List, [], ◌∷◌, ◌++◌, map, length, ◌-◌, None, refl, sym, ap, subst, ◌∙◌}
use Rattle.dsql_laws_calls.specs.journal.Kinds.{number_of}
use Rattle.dsql_laws_calls.specs.pool.declared.conn.Place.{Place}
use Rattle.dsql_laws_calls.specs.pool.declared.conn.Place.TheVariants.{Opening, Idle, Closing}
use Rattle.std.specs.List.{list_all}
use Rattle.std.specs.Prelude.{Result, Ok, drop, take}
use Rattle.std.specs.Option.{option_map}
use Rattle.dsql_laws_calls.specs.driver.declared.answer.DriverAnswer.{DriverAnswer}
use Rattle.dsql_laws_calls.specs.driver.Fits.{is_done}
use Rattle.dsql_laws_calls.specs.journal.Readers.{is_empty}
use Rattle.dsql_laws_calls.specs.journal.declared.entry.Owner.{Owner}
use Rattle.dsql_laws_calls.specs.wait.declared.request.Request.{Request}
use Rattle.dsql_laws_calls.specs.pool.declared.conn.Conn.{Conn}
use Rattle.dsql_laws_calls.specs.pool.declared.moves.CloseCause.{CloseCause}
use Rattle.dsql_laws_calls.specs.pool.declared.moves.CloseCause.TheVariants.{IdleFull, DbClosed}
use Rattle.dsql_laws_calls.specs.pool.declared.moves.Move.{Move}
use Rattle.dsql_laws_calls.specs.pool.declared.moves.Move.TheVariants.{Lend, Back, CloseStart, Gone, Fell}
use Rattle.dsql_laws_calls.specs.pool.declared.request.Asked.TheVariants as asked
use Rattle.dsql_laws_calls.specs.pool.Calls.{then_openings, moves_asked, moves_opened, moves_failed, moves_gone, moves_closed, open_set, idle_set, lifetime_set, idle_time_set}
use Rattle.dsql_laws_calls.specs.pool.Changes.{back}
use Rattle.dsql_laws_calls.specs.pool.declared.moves.Outcome.{Outcome}
use Rattle.dsql_laws_calls.specs.pool.declared.moves.Outcome.TheVariants.{Serves}
use Rattle.dsql_laws_calls.specs.pool.declared.request.Asked.{Asked}
use Rattle.dsql_laws_calls.specs.pool.declared.request.AskFault.{AskFault}
use Rattle.dsql_laws_calls.specs.pool.Decisions.{takes_idle, openings, due_openings, closings_of_setting, closings_of_tick, lends_to_oldest, moves_back, moves_unwanted, when_unwanted, when_opened, when_given_back, falls_to}
use Rattle.dsql_laws_calls.specs.pool.Moved.{moved, made, shut, ticked}
use Rattle.dsql_laws_calls.specs.pool.Places.{conn_of, is_idle, is_lent}
use Rattle.dsql_laws_calls.specs.pool.Rest.{AtRest}
use Rattle.dsql_laws_calls.specs.pool.Pooled.{Pooled, next_number, next_tenure, place_at}
use Rattle.dsql_laws_calls.proofs.pool.Found.{found_changed}
use Rattle.dsql_laws_calls.specs.history.declared.event.Control.{Control}
use Rattle.dsql_laws_calls.specs.history.declared.event.Setting.TheVariants.{MaxOpen, MaxIdle, MaxLife, MaxIdleTime}
use Rattle.dsql_laws_calls.specs.history.declared.event.Control.TheVariants.{Tick, Set}
use Rattle.dsql_laws_calls.specs.history.Same.{is_first}
use Rattle.dsql_laws_calls.specs.history.Readers.Owed.{answered, controlled, fate, given_back, leaving, left_of, owed}
use Rattle.dsql_laws_calls.specs.history.Readers.Pool.{with_control, pool, place, request, with_move}
use Rattle.dsql_laws_calls.proofs.laws.AskedAllowed.{lends_idle}
use Rattle.dsql_laws_calls.proofs.laws.OwedMoves.{is_own, are_own, own_moved, owed_own}
use Rattle.dsql_laws_calls.proofs.laws.Outdated.{outdated_all}
use Rattle.dsql_laws_calls.proofs.laws.Tests.{both, together, second, same_itself, move_is}
use Rattle.dsql_laws_calls.specs.history.declared.event.Event.{Event}
use Rattle.dsql_laws_calls.specs.history.declared.event.Event.TheVariants.{Entered, Heard, Pool, Ticked, SetLimit, Ended}
use Rattle.dsql_laws_calls.specs.history.declared.event.Op.TheVariants.{DbClose}
use Rattle.dsql_laws_calls.specs.history.Readers.Works.{owner_of}
use Rattle.dsql_laws_calls.specs.history.Rules.Asking.{asks_by_itself, ask_outcome}
use Rattle.dsql_laws_calls.specs.history.Rules.Causes.{goes_in_turn, is_given_back, is_owed}
use Rattle.dsql_laws_calls.specs.history.Rules.Order.{follows}
use Rattle.dsql_laws_calls.specs.history.Legal.{Lawful}
use Rattle.dsql_laws_calls.proofs.laws.AtRest.{Keeps, keeps_of, asks_now, owes, rests_owing_nothing}

-- Is true unless the connection is being opened for another call than n.
abbrev pub is_meant : ℕ → Option Place → Bool
is_meant n (Some (Opening (Some owner))) = number_of owner == n
is_meant n at = true

abbrev pub lends_well : Pooled → Move → Bool
lends_well p (Lend c t o n) = is_meant n (place_at p c)
lends_well p move = true

abbrev pub all_well : List Move → Pooled → Bool
all_well [] p = true
all_well (m ∷ ms) p = lends_well p m && all_well ms (moved m p)

abbrev is_no_lending : Move → Bool
is_no_lending (Lend c t o n) = false
is_no_lending move = true

abbrev lend_none : List Move → Bool
lend_none [] = true
lend_none (m ∷ ms) = is_no_lending m && lend_none ms

no_lending_well : (m : Move) (p : Pooled) → is_no_lending m ≡ true → lends_well p m ≡ true
no_lending_well (Lend c t o n) p h = absurd cc
no_lending_well _ p h = refl

none_well : (ms : List Move) (p : Pooled) → lend_none ms ≡ true → all_well ms p ≡ true
none_well [] p h = refl
none_well (m ∷ ms) p h =
    let a = both (is_no_lending m) (lend_none ms) h in together (lends_well p m) (all_well ms (moved m p)) (no_lending_well m p a.0) (none_well ms (moved m p) a.1)

none-append : (ms ns : List Move) → lend_none ms ≡ true → lend_none ns ≡ true → lend_none (ms ++ ns) ≡ true
none-append [] ns h k = k
none-append (m ∷ ms) ns h k = let a = both (is_no_lending m) (lend_none ms) h in together (is_no_lending m) (lend_none (ms ++ ns)) a.0 (none-append ms ns a.1 k)

openings_lend_none : (k c : ℕ) → lend_none (openings k c) ≡ true
openings_lend_none zero c = refl
openings_lend_none (suc k) c = openings_lend_none k (c + 1)

closings_lend_none : (why : CloseCause) (cs : List ℕ) → lend_none (map (λ c. CloseStart c why) cs) ≡ true
closings_lend_none why [] = refl
closings_lend_none why (c ∷ cs) = closings_lend_none why cs

then_lend_none : (ms : List Move) (p : Pooled) → lend_none ms ≡ true → lend_none (then_openings ms p) ≡ true
then_lend_none ms p h = let q = made ms p in none-append ms (openings (due_openings q) (next_number q)) h (openings_lend_none (due_openings q) (next_number q))

surplus_lends_none : (p : Pooled) → lend_none (closings_of_setting p) ≡ true
surplus_lends_none p = closings_lend_none IdleFull (take (length p.idle - p.limits.max_idle) p.idle)

all_lend_none : (ms : List Move) → list_all is_no_lending ms ≡ true → lend_none ms ≡ true
all_lend_none [] h = refl
all_lend_none (m ∷ ms) h = let a = both (is_no_lending m) (list_all is_no_lending ms) h in together (is_no_lending m) (lend_none ms) a.0 (all_lend_none ms a.1)

outdated_lend_none : (p : Pooled) → lend_none (closings_of_tick p) ≡ true
outdated_lend_none p = all_lend_none (closings_of_tick p) (outdated_all is_no_lending (λ c why. refl) p)

-- The moves that each event makes due.

oldest_well : (c t : ℕ) (rs : List Request) (p : Pooled) → ((n : ℕ) → is_meant n (place_at p c) ≡ true) → all_well (lends_to_oldest c t rs) p ≡ true
oldest_well c t [] p h = refl
oldest_well c t (r ∷ rs) p h = together (is_meant r.call (place_at p c)) true (h r.call) refl

unwanted_well : (c : ℕ) (p : Pooled) (o : Outcome) → place_at p c ≡ Some (Opening None) → all_well (moves_unwanted c p o) p ≡ true
unwanted_well c p Serves at = oldest_well c (next_tenure p c) p.waiting p (λ n. ap (is_meant n) at)
unwanted_well c p _ at = refl

opened_well : (c : ℕ) (p : Pooled) (at : Option Place) → place_at p c ≡ at → all_well (when_opened at c p) p ≡ true
opened_well c p (Some (Opening (Some owner))) is = together (is_meant (number_of owner) (place_at p c)) true (ap (is_meant (number_of owner)) is ∙ same_itself (number_of owner)) refl
opened_well c p (Some (Opening None)) is = unwanted_well c p (when_unwanted p) is
opened_well c p _ is = refl

answered_well : (answer : DriverAnswer) (c : ℕ) (p : Pooled) (at : Option Place) → all_well (answered answer c p at) p ≡ true
answered_well answer c p (Some (Opening wanted)) =
    elim (is_done answer) as (λ b. all_well (cond b (moves_opened c p) (moves_failed c p)) p ≡ true) [
      | true ↦ opened_well c p (place_at p c) refl
      | false ↦ none_well (moves_failed c p) p (then_lend_none (Fell c (falls_to (place_at p c) p) ∷ []) p refl)
    ]
answered_well answer c p (Some Closing) = none_well (moves_gone c p) p (then_lend_none (Gone c ∷ []) p refl)
answered_well answer c p _ = refl

control_well : (control : Control) (p : Pooled) → all_well (controlled control p) (with_control control p) ≡ true
control_well (Tick k) p = none_well (controlled (Tick k) p) (ticked k p) (outdated_lend_none (ticked k p))
control_well (Set MaxOpen k) p = none_well (controlled (Set MaxOpen k) p) (open_set k p) (then_lend_none (closings_of_setting (open_set k p)) (open_set k p) (surplus_lends_none (open_set k p)))
control_well (Set MaxIdle k) p = none_well (controlled (Set MaxIdle k) p) (idle_set k p) (surplus_lends_none (idle_set k p))
control_well (Set MaxLife k) p = none_well (controlled (Set MaxLife k) p) (lifetime_set k p) (outdated_lend_none (lifetime_set k p))
control_well (Set MaxIdleTime k) p = none_well (controlled (Set MaxIdleTime k) p) (idle_time_set k p) (outdated_lend_none (idle_time_set k p))

closed_well : (p : Pooled) → all_well (moves_closed p) (shut p) ≡ true
closed_well p = none_well (moves_closed p) (shut p) (closings_lend_none DbClosed p.idle)

-- A connection that came back is idle, and meant for nobody.
back_meant : (c n : ℕ) (p : Pooled) → is_meant n (place_at (moved (Back c) p) c) ≡ true
back_meant c n p = ap (λ o. is_meant n (option_map (λ (x : Conn). x.place) o)) (found_changed c (back p.moment) (λ x. refl) p.conns) ∙ by (conn_of c p.conns)
  where
    by : (o : Option Conn) → is_meant n (option_map (λ (x : Conn). x.place) (option_map (back p.moment) o)) ≡ true
    by None = refl
    by (Some x) = refl

back_well : (c : ℕ) (p : Pooled) (o : Outcome) → all_well (moves_back c p o) p ≡ true
back_well c p Serves = oldest_well c (next_tenure p c) p.waiting (moved (Back c) p) (λ n. back_meant c n p)
back_well c p _ = refl

rest_well : (ms : List Move) (m : Move) (p : Pooled) → is_first ms m ≡ true → all_well ms p ≡ true → all_well (drop 1 ms) (moved m p) ≡ true
rest_well [] m p first h = absurd cc
rest_well (k ∷ ms) m p first h = let a = both (lends_well p k) (all_well ms (moved k p)) h in subst (λ j. all_well ms (moved j p) ≡ true) (move_is k m first) a.1

leaving_well : (H : List Event) (c : ℕ) (m : Move) → is_given_back H c m ≡ true → all_well (drop 1 (given_back H c)) (moved m (pool H)) ≡ true
leaving_well H c m is =
    let a = both (is_lent (place H c)) (goes_in_turn H (place H c) && is_first (given_back H c) m) is in
    let b = both (goes_in_turn H (place H c)) (is_first (given_back H c) m) a.1 in
    rest_well (given_back H c) m (pool H) b.1 (back_well c (pool H) (when_given_back (fate H c) c (pool H)))

unowed_well : (H : List Event) (m : Move) → Keeps H (Pool m) → owed H ≡ [] → all_well (drop 1 (leaving H m)) (with_move H m (pool H)) ≡ true
unowed_well H (Back c) k none = leaving_well H c (Back c) (second (is_owed H) (is_given_back H c (Back c)) (owes H none) k.causes)
unowed_well H (CloseStart c why) k none = leaving_well H c (CloseStart c why) (second (is_owed H) (is_given_back H c (CloseStart c why)) (owes H none) k.causes)
unowed_well H _ k none = refl

move_well : (H : List Event) (m : Move) (ms : List Move) → Keeps H (Pool m) → owed H ≡ ms → are_own ms ≡ true → all_well ms (pool H) ≡ true → all_well (left_of H m ms) (with_move H m (pool H)) ≡ true
move_well H m [] k is own h = unowed_well H m k is
move_well H m (due ∷ later) k is own h =
    let made_it : follows (due ∷ later) (Pool m) ≡ true = subst (λ ns. follows ns (Pool m) ≡ true) is k.order in
    let same : due ≡ m = move_is due m made_it in
    let a = both (is_own due) (are_own later) own in
    let b = both (lends_well (pool H) due) (all_well later (moved due (pool H))) h in
    let begun_so : with_move H due (pool H) ≡ moved due (pool H) = own_moved H due (pool H) a.0 in
    subst (λ j. all_well later (with_move H j (pool H)) ≡ true) same (subst (λ q. all_well later q ≡ true) (sym begun_so) b.1)

owed_well : (H : List Event) → Lawful H → all_well (owed H) (pool H) ≡ true
owed_well [] l = refl
owed_well (Entered client n DbClose ∷ H) l = closed_well (pool H)
owed_well (Heard e ∷ H) l = answered_well e.answer e.conn (pool H) (place H e.conn)
owed_well (Pool m ∷ H) l = move_well H m (owed H) (keeps_of H (Pool m) l.1) refl (owed_own H) (owed_well H l.0)
owed_well (Ticked now ∷ H) l = control_well (Tick now) (pool H)
owed_well (SetLimit s n ∷ H) l = control_well (Set s n) (pool H)
owed_well (Ended ∷ H) l = closed_well (pool H)
owed_well (_ ∷ H) l = refl

-- A call that asks is lent an idle connection.

idle_meant : (n : ℕ) (at : Option Place) → is_idle at ≡ true → is_meant n at ≡ true
idle_meant n (Some Idle) h = refl
idle_meant n _ h = absurd cc

asked_idle : (H : List Event) (n c t : ℕ) (o : Owner) → AtRest (pool H) → is_first (moves_asked (request H n) (ask_outcome H n)) (Lend c t o n) ≡ true → is_idle (place H c) ≡ true
asked_idle H n c t o rest first = by (ask_outcome H n) refl first
  where
    by : (a : Result Asked AskFault) → ask_outcome H n ≡ a → is_first (moves_asked (request H n) a) (Lend c t o n) ≡ true → is_idle (place H c) ≡ true
    by (Ok (asked.Lent d v)) is k =
        let takes = lends_idle (request H n) (pool H) d v (pool H).closed (takes_idle (request H n) (pool H)) rest refl is in
        let same = lending_conn d v c t (owner_of H n) o (move_is (Lend d v (owner_of H n) n) (Lend c t o n) k) in
        ap (λ e. is_idle (place H e)) (sym same) ∙ takes.idle
      where
        lending_conn : (d v c t : ℕ) (p o : Owner) → Lend d v p n ≡ Lend c t o n → d ≡ c
        lending_conn d v c t p o same = cc
    by _ is k = absurd cc

pub meant : (H : List Event) (c t : ℕ) (o : Owner) (n : ℕ) → Lawful (Pool (Lend c t o n) ∷ H) → is_meant n (place H c) ≡ true
meant H c t o n l = by (owed H) refl (owed_well H l.0)
  where
    k : Keeps H (Pool (Lend c t o n))
    k = keeps_of H (Pool (Lend c t o n)) l.1

    by : (ms : List Move) → owed H ≡ ms → all_well ms (pool H) ≡ true → is_meant n (place H c) ≡ true
    by [] is h =
        let asked = asks_now H n (Lend c t o n) is k.asking in
        let a = both (asks_by_itself H n) (is_first (moves_asked (request H n) (ask_outcome H n)) (Lend c t o n)) asked in
        idle_meant n (place H c) (asked_idle H n c t o (rests_owing_nothing H l.0 (ap is_empty is)) a.1)
    by (due ∷ later) is h =
        let made_it : follows (due ∷ later) (Pool (Lend c t o n)) ≡ true = subst (λ ns. follows ns (Pool (Lend c t o n)) ≡ true) is k.order in
        let same : due ≡ Lend c t o n = move_is due (Lend c t o n) made_it in
        let b = both (lends_well (pool H) due) (all_well later (moved due (pool H))) h in
        subst (λ m. lends_well (pool H) m ≡ true) same b.0
