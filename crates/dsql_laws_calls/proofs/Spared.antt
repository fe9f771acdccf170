-- A connection leaves opening only by the move that follows its Connect.
use Rattle.std.proofs.Common.{◌≡◌, ℕ, zero, suc, ◌+◌, ◌-◌, ◌==◌, Bool, true, false, not, ◌&&◌, ◌||◌, cond, List, [], ◌∷◌, ◌++◌, length, map, Option, Some, None, is_some, refl, sym, ap, subst, ◌∙◌}
use Rattle.std.specs.Prelude.{drop, take, Result, Ok}
use Rattle.std.specs.List.{list_all}
use Rattle.std.specs.Option.{option_map}
use Rattle.std.proofs.lemmas.List.{take-append-drop}
use Rattle.std.proofs.lemmas.List.Folds.{list_all-append}
use Rattle.dsql_laws.specs.driver.declared.answer.DriverAnswer.{DriverAnswer}
use Rattle.dsql_laws.specs.driver.Fits.{is_done}
use Rattle.dsql_laws.specs.journal.declared.entry.Owner.{Owner}
use Rattle.dsql_laws.specs.journal.Readers.{is_empty}
use Rattle.dsql_laws.specs.wait.declared.request.Request.{Request}
use Rattle.dsql_laws.specs.pool.declared.conn.Conn.{Conn}
use Rattle.dsql_laws.specs.pool.declared.conn.Place.{Place}
use Rattle.dsql_laws.specs.pool.declared.conn.Place.TheVariants.{Idle, Opening, Closing}
use Rattle.dsql_laws.specs.pool.declared.moves.CloseCause.{CloseCause}
use Rattle.dsql_laws.specs.pool.declared.moves.CloseCause.TheVariants.{IdleFull}
use Rattle.dsql_laws.specs.pool.declared.moves.CloseCause.TheVariants as causes
use Rattle.dsql_laws.specs.pool.declared.moves.Move.{Move}
use Rattle.dsql_laws.specs.pool.declared.moves.Move.TheVariants.{OpenStart, Lend, Back, CloseStart, Gone, Fell}
use Rattle.dsql_laws.specs.pool.declared.moves.Outcome.{Outcome}
use Rattle.dsql_laws.specs.pool.declared.moves.Outcome.TheVariants.{Closes, Serves, Rests}
use Rattle.dsql_laws.specs.pool.declared.request.Asked.{Asked}
use Rattle.dsql_laws.specs.pool.declared.request.Asked.TheVariants as asked
use Rattle.dsql_laws.specs.pool.declared.request.AskFault.{AskFault}
use Rattle.dsql_laws.specs.pool.Changes.{back, closing}
use Rattle.dsql_laws.specs.pool.Places.{conn_of, is_lent, is_idle, is_opening, is_closing}
use Rattle.dsql_laws.specs.pool.Pooled.{Pooled, place_at, next_tenure, next_number}
use Rattle.dsql_laws.specs.pool.Rest.{AtRest}
use Rattle.dsql_laws.specs.pool.Moved.{made, moved, shut, ticked}
use Rattle.dsql_laws.specs.pool.Decisions.{closings_of_setting, closings_of_tick, falls_to, openings, openings_for_waiting, due_openings, lends_to_oldest, moves_back, moves_unwanted, when_given_back, when_unwanted, when_opened, takes_idle}
use Rattle.dsql_laws.specs.pool.Calls.{then_openings, moves_opened, moves_failed, moves_gone, moves_closed, moves_asked, open_set, idle_set, lifetime_set, idle_time_set}
use Rattle.dsql_laws.proofs.pool.Found.{found_changed}
use Rattle.dsql_laws.proofs.pool.Members.{all_members}
use Rattle.dsql_laws.proofs.pool.Placed.{Placed}
use Rattle.dsql_laws.proofs.pool.Returning.{when_serves}
use Rattle.dsql_laws.proofs.pool.Young.{member_is_idle}
use Rattle.dsql_laws_work.proofs.Rows.{by_number}
use Rattle.dsql_laws.specs.history.declared.event.Control.{Control}
use Rattle.dsql_laws.specs.history.declared.event.Setting.TheVariants.{MaxOpen, MaxIdle, MaxLife, MaxIdleTime}
use Rattle.dsql_laws.specs.history.declared.event.Control.TheVariants.{Tick, Set}
use Rattle.dsql_laws.specs.history.Same.{is_first}
use Rattle.dsql_laws.specs.history.Readers.Pool.{with_control, pool, place, request, with_move}
use Rattle.dsql_laws.specs.history.Readers.Owed.{answered, controlled, fate, given_back, leaving, left_of, owed}
use Rattle.dsql_laws.proofs.Tests.{both, second, together, move_is, same_number, same_itself}
use Rattle.dsql_laws.proofs.OwedMoves.{is_own, are_own, own_moved, owed_own}
use Rattle.dsql_laws.proofs.Outdated.{close_idle, outdated_close}
use Rattle.dsql_laws.proofs.AskedAllowed.{lends_idle}
use Rattle.dsql_laws_calls.proofs.Found.{place_in, changed_place, changed_off, shut_found, unwanted_in, unwanted_place}
use Rattle.dsql_laws_calls.proofs.Cases.{true_false, is_false}
use Rattle.dsql_laws.specs.history.declared.event.Event.{Event}
use Rattle.dsql_laws.specs.history.declared.event.Event.TheVariants.{Run, Entered, Heard, Pool, Waits, Ticked, SetLimit, Replied, Ended}
use Rattle.dsql_laws.specs.history.declared.event.Op.TheVariants.{DbClose}
use Rattle.dsql_laws.specs.history.Rules.Asking.{ask_outcome, is_asked_for}
use Rattle.dsql_laws.specs.history.Rules.Causes.{is_owed, is_given_back}
use Rattle.dsql_laws.specs.history.Rules.Order.{follows}
use Rattle.dsql_laws.specs.history.Legal.{Lawful}
use Rattle.dsql_laws.proofs.AtRest.{Keeps, keeps_of, owes, rested, before_event, rests_owing_nothing, asks_now, asked_so, given_so}

-- Is true if the move is of no connection that is being opened, or takes it out of the four sets.
abbrev spares : Pooled → Move → Bool
spares p (Lend c t o n) = not (is_opening (place_at p c))
spares p (Back c) = not (is_opening (place_at p c))
spares p (CloseStart c why) = not (is_opening (place_at p c))
spares p _ = true

-- Is true if `spares` holds of each move when its turn comes.
abbrev are_sparing : List Move → Pooled → Bool
are_sparing [] p = true
are_sparing (m ∷ ms) p = spares p m && are_sparing ms (moved m p)

-- Is true if `spares` holds of each move but the first when its turn comes.
abbrev are_sparing_later : List Move → Pooled → Bool
are_sparing_later [] p = true
are_sparing_later (m ∷ ms) p = are_sparing ms (moved m p)

later_of : (ms : List Move) (p : Pooled) → are_sparing ms p ≡ true → are_sparing_later ms p ≡ true
later_of [] p h = refl
later_of (m ∷ ms) p h = let a = both (spares p m) (are_sparing ms (moved m p)) h in a.1

openings_spare : (k c : ℕ) (p : Pooled) → are_sparing (openings k c) p ≡ true
openings_spare zero c p = refl
openings_spare (suc k) c p = openings_spare k (c + 1) (moved (OpenStart c 0) p)

sparing-append : (ms ns : List Move) (p : Pooled) → are_sparing ms p ≡ true → are_sparing ns (made ms p) ≡ true → are_sparing (ms ++ ns) p ≡ true
sparing-append [] ns p h k = k
sparing-append (m ∷ ms) ns p h k =
    let a = both (spares p m) (are_sparing ms (moved m p)) h in
    together (spares p m) (are_sparing (ms ++ ns) (moved m p)) a.0 (sparing-append ms ns (moved m p) a.1 k)

then_spare : (ms : List Move) (p : Pooled) → are_sparing ms p ≡ true → are_sparing (then_openings ms p) p ≡ true
then_spare ms p h = sparing-append ms (openings_for_waiting (made ms p)) p h (openings_spare (due_openings (made ms p)) (next_number (made ms p)) (made ms p))

-- Idle connections whose closing begins.

abbrev is_elsewhere : Pooled → ℕ → Bool
is_elsewhere p c = not (is_opening (place_at p c))

abbrev are_elsewhere : Pooled → List ℕ → Bool
are_elsewhere p cs = list_all (is_elsewhere p) cs

closed_place : (o : Option Conn) → not (is_opening (place_in (option_map closing o))) ≡ true
closed_place None = refl
closed_place (Some x) = refl

still_elsewhere : (why : CloseCause) (c : ℕ) (p : Pooled) (d : ℕ) → is_elsewhere p d ≡ true → is_elsewhere (moved (CloseStart c why) p) d ≡ true
still_elsewhere why c p d =
    by_number c d (λ e. is_elsewhere p e ≡ true → is_elsewhere (moved (CloseStart c why) p) e ≡ true)
    (λ k. ap (λ (o : Option Conn). not (is_opening (place_in o))) (found_changed c closing (λ _. refl) p.conns) ∙ closed_place (conn_of c p.conns))
    (λ apart k. ap (λ (o : Option Conn). not (is_opening (place_in o))) (changed_off c d closing p.conns (λ _. refl) apart) ∙ k)

all_elsewhere : (why : CloseCause) (c : ℕ) (p : Pooled) (cs : List ℕ) → are_elsewhere p cs ≡ true → are_elsewhere (moved (CloseStart c why) p) cs ≡ true
all_elsewhere why c p [] h = refl
all_elsewhere why c p (d ∷ cs) h =
    let a = both (is_elsewhere p d) (are_elsewhere p cs) h in
    together (is_elsewhere (moved (CloseStart c why) p) d) (are_elsewhere (moved (CloseStart c why) p) cs) (still_elsewhere why c p d a.0) (all_elsewhere why c p cs a.1)

closings_spare : (why : CloseCause) (cs : List ℕ) (p : Pooled) → are_elsewhere p cs ≡ true → are_sparing (map (λ c. CloseStart c why) cs) p ≡ true
closings_spare why [] p h = refl
closings_spare why (c ∷ cs) p h =
    let a = both (is_elsewhere p c) (are_elsewhere p cs) h in
    together (is_elsewhere p c) (are_sparing (map (λ d. CloseStart d why) cs) (moved (CloseStart c why) p)) a.0
    (closings_spare why cs (moved (CloseStart c why) p) (all_elsewhere why c p cs a.1))

idle_elsewhere : (at : Option Place) → is_idle at ≡ true → not (is_opening at) ≡ true
idle_elsewhere (Some Idle) h = refl
idle_elsewhere _ h = absurd cc

idles_elsewhere : (p : Pooled) → Placed p.idle p.conns → are_elsewhere p p.idle ≡ true
idles_elsewhere p h = all_members (is_elsewhere p) p.idle (λ d member. idle_elsewhere (place_at p d) (member_is_idle p.idle p.conns d h member))

first_elsewhere : (p : Pooled) (k : ℕ) (cs : List ℕ) → are_elsewhere p cs ≡ true → are_elsewhere p (take k cs) ≡ true
first_elsewhere p k cs h =
    let split : are_elsewhere p (take k cs ++ drop k cs) ≡ true = subst (λ ds. are_elsewhere p ds ≡ true) (sym (take-append-drop k cs)) h in
    let a = both (are_elsewhere p (take k cs)) (are_elsewhere p (drop k cs)) (sym (list_all-append (is_elsewhere p) (take k cs) (drop k cs)) ∙ split) in
    a.0

surplus_spare : (p : Pooled) → Placed p.idle p.conns → are_sparing (closings_of_setting p) p ≡ true
surplus_spare p h =
    let k = length p.idle - p.limits.max_idle in closings_spare IdleFull (take k p.idle) p (first_elsewhere p k p.idle (idles_elsewhere p h))

closing_idle_spare : (ms : List Move) (p : Pooled) → close_idle ms p ≡ true → are_sparing ms p ≡ true
closing_idle_spare [] p h = refl
closing_idle_spare (CloseStart c why ∷ ms) p h =
    let a = both (is_idle (place_at p c)) (close_idle ms (moved (CloseStart c why) p)) h in
    together (is_elsewhere p c) (are_sparing ms (moved (CloseStart c why) p)) (idle_elsewhere (place_at p c) a.0) (closing_idle_spare ms (moved (CloseStart c why) p) a.1)
closing_idle_spare (_ ∷ ms) p h = absurd cc

outdated_spare : (p : Pooled) → Placed p.idle p.conns → are_sparing (closings_of_tick p) p ≡ true
outdated_spare p h = closing_idle_spare (closings_of_tick p) p (outdated_close p h)

idle_when_shut : (at : Option Place) → is_idle at ≡ true → not (is_opening (option_map unwanted_place at)) ≡ true
idle_when_shut (Some Idle) h = refl
idle_when_shut _ h = absurd cc

closed_spare : (p : Pooled) → Placed p.idle p.conns → are_sparing (moves_closed p) (shut p) ≡ true
closed_spare p h =
    closings_spare causes.DbClosed p.idle (shut p)
    (all_members (is_elsewhere (shut p)) p.idle
    (λ d member.
    ap (λ at. not (is_opening at)) (ap place_in (shut_found d p) ∙ unwanted_in (conn_of d p.conns)) ∙ idle_when_shut (place_at p d) (member_is_idle p.idle p.conns d h member)))

-- Connections that are opened, refused, shut or given back.

opened_later : (c : ℕ) (p : Pooled) (at : Option Place) → are_sparing_later (when_opened at c p) p ≡ true
opened_later c p (Some (Opening None)) = by (when_unwanted p)
  where
    oldest : (rs : List Request) → are_sparing_later (lends_to_oldest c (next_tenure p c) rs) p ≡ true
    oldest [] = refl
    oldest (r ∷ rs) = refl

    by : (o : Outcome) → are_sparing_later (moves_unwanted c p o) p ≡ true
    by (Closes why) = refl
    by Serves = oldest p.waiting
    by Rests = refl
opened_later c p _ = refl

failed_later : (c : ℕ) (p : Pooled) → are_sparing_later (moves_failed c p) p ≡ true
failed_later c p =
    let q = moved (Fell c (falls_to (place_at p c) p)) p in openings_spare (due_openings q) (next_number q) q

gone_later : (c : ℕ) (p : Pooled) → are_sparing_later (moves_gone c p) p ≡ true
gone_later c p = let q = moved (Gone c) p in openings_spare (due_openings q) (next_number q) q

answered_later : (answer : DriverAnswer) (c : ℕ) (p : Pooled) (at : Option Place) → are_sparing_later (answered answer c p at) p ≡ true
answered_later answer c p (Some (Opening wanted)) =
    elim (is_done answer) as (λ b. are_sparing_later (cond b (moves_opened c p) (moves_failed c p)) p ≡ true) [ true ↦ opened_later c p (place_at p c) | false ↦ failed_later c p ]
answered_later answer c p (Some Closing) = gone_later c p
answered_later answer c p _ = refl

lent_there : (at : Option Place) → is_lent at ≡ true → is_some at ≡ true
lent_there (Some p) h = refl
lent_there None h = absurd cc

lends_idle_one : (c t : ℕ) (p : Pooled) (rs : List Request) → place_at p c ≡ Some Idle → are_sparing (lends_to_oldest c t rs) p ≡ true
lends_idle_one c t p [] is = refl
lends_idle_one c t p (r ∷ rs) is = together (is_elsewhere p c) true (ap (λ at. not (is_opening at)) is) refl

back_later : (c : ℕ) (p : Pooled) (o : Outcome) → is_lent (place_at p c) ≡ true → are_sparing_later (moves_back c p o) p ≡ true
back_later c p Serves lent =
    lends_idle_one c (next_tenure p c) (moved (Back c) p) p.waiting (changed_place c (back p.moment) Idle p.conns (λ _. refl) (λ _. refl) (lent_there (place_at p c) lent))
back_later c p _ lent = refl

control_spares : (control : Control) (p : Pooled) → AtRest p → are_sparing (controlled control p) (with_control control p) ≡ true
control_spares (Tick n) p h = outdated_spare (ticked n p) h.placed
control_spares (Set MaxOpen n) p h = then_spare (closings_of_setting (open_set n p)) (open_set n p) (surplus_spare (open_set n p) h.placed)
control_spares (Set MaxIdle n) p h = surplus_spare (idle_set n p) h.placed
control_spares (Set MaxLife n) p h = outdated_spare (lifetime_set n p) h.placed
control_spares (Set MaxIdleTime n) p h = outdated_spare (idle_time_set n p) h.placed

-- What is owed after each event.

rest_spares : (ms : List Move) (m : Move) (p : Pooled) → is_first ms m ≡ true → are_sparing_later ms p ≡ true → are_sparing (drop 1 ms) (moved m p) ≡ true
rest_spares [] m p is h = absurd cc
rest_spares (k ∷ ms) m p is h = subst (λ j. are_sparing ms (moved j p) ≡ true) (move_is k m is) h

leaving_spares : (H : List Event) (c : ℕ) (m : Move) → is_given_back H c m ≡ true → are_sparing (drop 1 (given_back H c)) (moved m (pool H)) ≡ true
leaving_spares H c m is =
    let a = given_so H c m is in
    rest_spares (given_back H c) m (pool H) a.1 (back_later c (pool H) (when_given_back (fate H c) c (pool H)) a.0)

unowed_spares : (H : List Event) (m : Move) → Keeps H (Pool m) → owed H ≡ [] → are_sparing (drop 1 (leaving H m)) (with_move H m (pool H)) ≡ true
unowed_spares H (Back c) k none = leaving_spares H c (Back c) (second (is_owed H) (is_given_back H c (Back c)) (owes H none) k.causes)
unowed_spares H (CloseStart c why) k none = leaving_spares H c (CloseStart c why) (second (is_owed H) (is_given_back H c (CloseStart c why)) (owes H none) k.causes)
unowed_spares H _ k none = refl

move_spares : (H : List Event) (m : Move) (ms : List Move) → Keeps H (Pool m) → owed H ≡ ms → are_own ms ≡ true → are_sparing_later ms (pool H) ≡ true
    → are_sparing (left_of H m ms) (with_move H m (pool H)) ≡ true
move_spares H m [] k is own h = unowed_spares H m k is
move_spares H m (due ∷ later) k is own h =
    let made_it : follows (due ∷ later) (Pool m) ≡ true = subst (λ ns. follows ns (Pool m) ≡ true) is k.order in
    let same : due ≡ m = move_is due m made_it in
    let a = both (is_own due) (are_own later) own in
    let begun_so : with_move H due (pool H) ≡ moved due (pool H) = own_moved H due (pool H) a.0 in
    subst (λ j. are_sparing later (with_move H j (pool H)) ≡ true) same (subst (λ q. are_sparing later q ≡ true) (sym begun_so) h)

-- Holds if the owed moves spare the connections that are being opened. After an answer, the first move that the
-- answer makes due is exempt.
abbrev Spared : List Event → Type 0
Spared (Heard e ∷ H) = are_sparing_later (owed (Heard e ∷ H)) (pool H) ≡ true
Spared H = are_sparing (owed H) (pool H) ≡ true

spared_later : (H : List Event) → Spared H → are_sparing_later (owed H) (pool H) ≡ true
spared_later (Heard e ∷ H) h = h
spared_later [] h = refl
spared_later (Run version can ∷ H) h = refl
spared_later (Waits n ∷ H) h = refl
spared_later (Replied n reply ∷ H) h = refl
spared_later (e ∷ H) h = later_of (owed (e ∷ H)) (pool (e ∷ H)) h

spared : (H : List Event) → Lawful H → Spared H
spared [] l = refl
spared (Entered client n DbClose ∷ H) l = let rest = before_event H (Entered client n DbClose) refl l.1 (rested H l.0) in closed_spare (pool H) rest.placed
spared (Heard e ∷ H) l = answered_later e.answer e.conn (pool H) (place H e.conn)
spared (Pool m ∷ H) l = move_spares H m (owed H) (keeps_of H (Pool m) l.1) refl (owed_own H) (spared_later H (spared H l.0))
spared (Ticked now ∷ H) l = control_spares (Tick now) (pool H) (before_event H (Ticked now) refl l.1 (rested H l.0))
spared (SetLimit s n ∷ H) l = control_spares (Set s n) (pool H) (before_event H (SetLimit s n) refl l.1 (rested H l.0))
spared (Ended ∷ H) l = let rest = before_event H Ended refl l.1 (rested H l.0) in closed_spare (pool H) rest.placed
spared (_ ∷ H) l = refl

-- A call that asks is lent an idle connection.

asked_idle : (H : List Event) (c t : ℕ) (o : Owner) (n : ℕ) → Lawful H → owed H ≡ [] → is_asked_for H n (Lend c t o n) ≡ true → is_idle (place H c) ≡ true
asked_idle H c t o n l none is =
    let a = asked_so H n (Lend c t o n) is in
    by (ask_outcome H n) refl a.1
  where
    same_conn : (d u : ℕ) (p : Owner) (k : ℕ) → Lend d u p k ≡ Lend c t o n → d ≡ c
    same_conn d u p k h = cc

    by : (outcome : Result Asked AskFault) → ask_outcome H n ≡ outcome → is_first (moves_asked (request H n) outcome) (Lend c t o n) ≡ true → is_idle (place H c) ≡ true
    by (Ok (asked.Lent d u)) at first =
        let p = pool H in
        let takes = lends_idle (request H n) p d u p.closed (takes_idle (request H n) p) (rests_owing_nothing H l (ap is_empty none)) refl at in
        subst (λ e. is_idle (place H e) ≡ true) (same_conn d u (request H n).owner (request H n).call (move_is (Lend d u (request H n).owner (request H n).call) (Lend c t o n) first)) takes.idle
    by _ at first = absurd cc

-- Is true if the move takes connection c out of its place, but not out of the four sets.
abbrev pub takes : ℕ → Move → Bool
takes c (Lend d t o n) = d == c
takes c (Back d) = d == c
takes c (CloseStart d why) = d == c
takes c _ = false

-- Is true if the last event answered the Connect of connection c with Done.
abbrev pub was_opened : ℕ → List Event → Bool
was_opened c (Heard e ∷ H) = (e.conn == c) && is_done e.answer
was_opened c _ = false

-- Is true if the last event is an answer on connection c.
abbrev pub was_heard : ℕ → List Event → Bool
was_heard c (Heard e ∷ H) = e.conn == c
was_heard c _ = false

-- Is true if the first of these moves takes connection c out of its place.
abbrev first_takes : ℕ → List Move → Bool
first_takes c [] = false
first_takes c (m ∷ ms) = takes c m

opened_takes : (c d : ℕ) (p : Pooled) (at : Option Place) → first_takes c (when_opened at d p) ≡ true → (d == c) ≡ true
opened_takes c d p (Some (Opening (Some owner))) h = h
opened_takes c d p (Some (Opening None)) h = by (when_unwanted p) h
  where
    oldest : (rs : List Request) → first_takes c (lends_to_oldest d (next_tenure p d) rs) ≡ true → (d == c) ≡ true
    oldest [] k = absurd cc
    oldest (r ∷ rs) k = k

    by : (o : Outcome) → first_takes c (moves_unwanted d p o) ≡ true → (d == c) ≡ true
    by (Closes why) k = k
    by Serves k = oldest p.waiting k
    by Rests k = k
opened_takes c d p _ h = absurd cc

answered_takes : (answer : DriverAnswer) (c d : ℕ) (p : Pooled) (at : Option Place) → first_takes c (answered answer d p at) ≡ true → ((d == c) && is_done answer) ≡ true
answered_takes answer c d p (Some (Opening wanted)) h =
    elim (is_done answer) as (λ b. first_takes c (cond b (moves_opened d p) (moves_failed d p)) ≡ true → ((d == c) && b) ≡ true) [
      | true ↦ λ k. together (d == c) true (opened_takes c d p (place_at p d) k) refl
      | false ↦ λ k. absurd cc
    ] h
answered_takes answer c d p _ h = absurd cc

never : (b : Bool) → b ≡ true → not b ≡ true → ⊥
never true h k = cc
never false h k = cc

-- If such a move takes connection c out of its place, the connection isn't being opened.
spared_one : (c : ℕ) (m : Move) (p : Pooled) → spares p m ≡ true → takes c m ≡ true → is_opening (place_at p c) ≡ true → ⊥
spared_one c (Lend d t o n) p s h opens = never (is_opening (place_at p d)) (subst (λ e. is_opening (place_at p e) ≡ true) (sym (same_number d c h)) opens) s
spared_one c (Back d) p s h opens = never (is_opening (place_at p d)) (subst (λ e. is_opening (place_at p e) ≡ true) (sym (same_number d c h)) opens) s
spared_one c (CloseStart d why) p s h opens = never (is_opening (place_at p d)) (subst (λ e. is_opening (place_at p e) ≡ true) (sym (same_number d c h)) opens) s
spared_one c _ p s h opens = cc

spared_first : (c : ℕ) (ms : List Move) (p : Pooled) → are_sparing ms p ≡ true → first_takes c ms ≡ true → is_opening (place_at p c) ≡ true → ⊥
spared_first c [] p s h opens = cc
spared_first c (m ∷ ms) p s h opens = let a = both (spares p m) (are_sparing ms (moved m p)) s in spared_one c m p a.0 h opens

opened_by : (H : List Event) (c : ℕ) → Spared H → first_takes c (owed H) ≡ true → is_opening (place H c) ≡ true → was_opened c H ≡ true
opened_by (Heard e ∷ H) c s h opens = answered_takes e.answer c e.conn (pool H) (place H e.conn) h
opened_by [] c s h opens = absurd cc
opened_by (Run version can ∷ H) c s h opens = absurd cc
opened_by (Waits n ∷ H) c s h opens = absurd cc
opened_by (Replied n reply ∷ H) c s h opens = absurd cc
opened_by (e ∷ H) c s h opens = absurd (spared_first c (owed (e ∷ H)) (pool (e ∷ H)) s h opens)

idle_or_opening : (at : Option Place) → is_idle at ≡ true → is_opening at ≡ true → ⊥
idle_or_opening (Some Idle) h k = cc
idle_or_opening _ h k = cc

pub lent_or_opening : (at : Option Place) → is_lent at ≡ true → is_opening at ≡ true → ⊥
lent_or_opening (Some Idle) h k = cc
lent_or_opening _ h k = cc

given_takes : (H : List Event) (c d : ℕ) (m : Move) → is_given_back H d m ≡ true → (d == c) ≡ true → is_opening (place H c) ≡ true → ⊥
given_takes H c d m h same opens =
    let a = given_so H d m h in
    lent_or_opening (place H c) (subst (λ e. is_lent (place H e) ≡ true) (same_number d c same) a.0) opens

unowed_takes : (H : List Event) (c : ℕ) (m : Move) → Lawful H → Keeps H (Pool m) → owed H ≡ [] → takes c m ≡ true → is_opening (place H c) ≡ true → ⊥
unowed_takes H c (Lend d t o n) l k none h opens =
    let idle = asked_idle H d t o n l none (asks_now H n (Lend d t o n) none k.asking) in
    idle_or_opening (place H c) (subst (λ e. is_idle (place H e) ≡ true) (same_number d c h) idle) opens
unowed_takes H c (Back d) l k none h opens = given_takes H c d (Back d) (second (is_owed H) (is_given_back H d (Back d)) (owes H none) k.causes) h opens
unowed_takes H c (CloseStart d why) l k none h opens = given_takes H c d (CloseStart d why) (second (is_owed H) (is_given_back H d (CloseStart d why)) (owes H none) k.causes) h opens
unowed_takes H c _ l k none h opens = cc

-- If a move takes a connection out of opening, the last event opened it.
pub opened_when : (H : List Event) (c : ℕ) (m : Move) → Lawful H → Keeps H (Pool m) → takes c m ≡ true → is_opening (place H c) ≡ true → was_opened c H ≡ true
opened_when H c m l k h opens = by (owed H) refl
  where
    by : (ms : List Move) → owed H ≡ ms → was_opened c H ≡ true
    by [] is = absurd (unowed_takes H c m l k is h opens)
    by (due ∷ later) is =
        let made_it : follows (due ∷ later) (Pool m) ≡ true = subst (λ ns. follows ns (Pool m) ≡ true) is k.order in
        let same : due ≡ m = move_is due m made_it in
        let first : first_takes c (owed H) ≡ true = ap (first_takes c) is ∙ ap (takes c) same ∙ h in
        opened_by H c (spared H l) first opens

-- If the last event is an answer on a connection that is being opened or closed, it makes a move of that
-- connection due.

-- Is true if the move is of connection c.
abbrev pub is_of : ℕ → Move → Bool
is_of c (OpenStart d n) = false
is_of c (Lend d t o n) = d == c
is_of c (Back d) = d == c
is_of c (CloseStart d why) = d == c
is_of c (Gone d) = d == c
is_of c (Fell d n) = d == c

abbrev pub moves : ℕ → Event → Bool
moves c (Pool m) = is_of c m
moves c _ = false

abbrev first_of : ℕ → List Move → Bool
first_of c [] = false
first_of c (m ∷ ms) = is_of c m

oldest_first : (c t : ℕ) (rs : List Request) → is_empty rs ≡ false → first_of c (lends_to_oldest c t rs) ≡ true
oldest_first c t [] some = absurd cc
oldest_first c t (r ∷ rs) some = same_itself c

opened_first : (c : ℕ) (p : Pooled) (at : Option Place) → is_opening at ≡ true → first_of c (when_opened at c p) ≡ true
opened_first c p (Some (Opening (Some owner))) h = same_itself c
opened_first c p (Some (Opening None)) h = by (when_unwanted p) refl
  where
    by : (o : Outcome) → when_unwanted p ≡ o → first_of c (moves_unwanted c p o) ≡ true
    by (Closes why) is = same_itself c
    by Serves is = let w = when_serves false p is in oldest_first c (next_tenure p c) p.waiting w.1
    by Rests is = same_itself c
opened_first c p _ h = absurd cc

answered_first : (answer : DriverAnswer) (c : ℕ) (p : Pooled) (at : Option Place) → place_at p c ≡ at → (is_opening at || is_closing at) ≡ true → first_of c (answered answer c p at) ≡ true
answered_first answer c p (Some (Opening wanted)) is h =
    elim (is_done answer) as (λ b. first_of c (cond b (moves_opened c p) (moves_failed c p)) ≡ true) [ true ↦ opened_first c p (place_at p c) (ap is_opening is) | false ↦ same_itself c ]
answered_first answer c p (Some Closing) is h = same_itself c
answered_first answer c p _ is h = absurd cc

first_follows : (ms : List Move) (e : Event) (c : ℕ) → first_of c ms ≡ true → follows ms e ≡ true → moves c e ≡ true
first_follows [] e c h f = absurd cc
first_follows (due ∷ later) (Pool m) c h f = ap (is_of c) (sym (move_is due m f)) ∙ h
first_follows (due ∷ later) _ c h f = absurd cc

-- If the next event doesn't move a connection that is being opened or closed, the last event wasn't an answer
-- on it.
pub unpressed : (H : List Event) (e : Event) (c : ℕ) → follows (owed H) e ≡ true → moves c e ≡ false → (is_opening (place H c) || is_closing (place H c)) ≡ true → was_heard c H ≡ false
unpressed (Heard x ∷ H) e c f still at =
    is_false (x.conn == c) (λ here.
    let same : x.conn ≡ c = same_number x.conn c here in
    let there : (is_opening (place H x.conn) || is_closing (place H x.conn)) ≡ true = subst (λ d. (is_opening (place H d) || is_closing (place H d)) ≡ true) (sym same) at in
    let first : first_of x.conn (owed (Heard x ∷ H)) ≡ true = answered_first x.answer x.conn (pool H) (place H x.conn) refl there in
    let moved_it : moves x.conn e ≡ true = first_follows (owed (Heard x ∷ H)) e x.conn first f in
    true_false (moves c e) (subst (λ d. moves d e ≡ true) same moved_it) still)
unpressed [] e c f still at = refl
unpressed (_ ∷ H) e c f still at = refl
