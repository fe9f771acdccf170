-- The argument that the pool is at rest after each call, and so after all of them.
use Rattle.std.proofs.Common.{◌≡◌, ℕ, Bool, true, false, not, ◌&&◌, eqb, cond, List, [], ◌∷◌, length, map, Some, None, refl, sym, ap, arith}
use Rattle.std.specs.Prelude.{ℤ, nat_le}
use Rattle.std.specs.List.{list_all}
use Rattle.std.proofs.lemmas.List.{length-map}
use Rattle.dsql_tenure_journal.specs.Readers.{is_empty}
use Rattle.dsql_wait.specs.declared.request.Request.{Request}
use Rattle.dsql_pool.specs.declared.conn.Place.{Place}
use Rattle.dsql_pool.specs.declared.conn.Place.TheVariants.{Idle, Opening}
use Rattle.dsql_pool.specs.declared.conn.Conn.{Conn}
use Rattle.dsql_pool.specs.Places.{is_idle, is_opening, is_for}
use Rattle.dsql_pool.specs.Changes.{unwanted, unwanted_by}
use Rattle.dsql_pool.specs.Pooled.{Pooled, fresh, open_count, free_openings, next_tenure, most_allowed}
use Rattle.dsql_pool.specs.Moved.{made, withdrawn, shut, ticked}
use Rattle.dsql_pool.specs.Decisions.{closings_of_setting, closings_of_tick, closings_of_close}
use Rattle.dsql_pool.specs.Calls.{open_set, idle_set, lifetime_set, idle_time_set, moves_open_set, moves_idle_set, moves_closed}
use Rattle.dsql_pool.specs.Rest.{AtRest}
use Rattle.dsql_pool.specs.Runs.{Call, May, AllMay, after, after_all}
use Rattle.dsql_pool.specs.Runs as call
use Rattle.dsql_pool.specs.Laws.{RestsAfterEachCall}
use Rattle.dsql_pool.proofs.Placed.{placed_map}
use Rattle.dsql_pool.proofs.Young.{young_map}
use Rattle.dsql_pool.proofs.Frees.{count-map, enough_kept}
use Rattle.dsql_pool.proofs.Leaving.{free, leaves, closings_young}
use Rattle.dsql_pool.proofs.Nearly.{wholly, young_at, le_true, or_kept, or_left, or_right, and_kept, empty_filter, fewer_requests}
use Rattle.dsql_pool.proofs.Rows.{all_filter, both}
use Rattle.dsql_pool.proofs.Stepping.{kept_many}
use Rattle.dsql_pool.proofs.Settling as settling
use Rattle.dsql_pool.proofs.Resting as resting

opening_is_busy : (place : Place) → is_opening (Some place) ≡ true → is_idle (Some place) ≡ false
opening_is_busy Idle h = cc
opening_is_busy _ h = refl

for_is_busy : (call : ℕ) (place : Place) → is_for call place ≡ true → is_idle (Some place) ≡ false
for_is_busy call Idle h = cc
for_is_busy call _ h = refl

-- Turning an opening into one for no request leaves a connection as idle as it was.
as_idle : (test : Bool) (x : Conn) → (test ≡ true → is_idle (Some x.place) ≡ false) → is_idle (Some (cond test (record x { place = Opening None }) x).place) ≡ is_idle (Some x.place)
as_idle true x busy = sym (busy refl)
as_idle false x busy = refl

stays_itself : (test : Bool) (x : Conn) → is_idle (Some (cond test (record x { place = Opening None }) x).place) ≡ true → cond test (record x { place = Opening None }) x ≡ x
stays_itself true x h = cc
stays_itself false x h = refl

keeps_number : (test : Bool) (x : Conn) → (cond test (record x { place = Opening None }) x).number ≡ x.number
keeps_number true x = refl
keeps_number false x = refl

free_still : (test : Bool) (x : Conn) → free x ≡ true → free (cond test (record x { place = Opening None }) x) ≡ true
free_still true x h = refl
free_still false x h = h

withdrawn_rests : (n : ℕ) (p : Pooled) → AtRest p → AtRest (withdrawn n p)
withdrawn_rests n p h =
    let q = withdrawn n p in
    let others = λ (r : Request). not (eqb r.call n) in
    let keeps = λ (x : Conn). keeps_number (is_for n x.place) x in
    let many = length-map p.conns (unwanted_by n) in
    let frees = count-map free (unwanted_by n) p.conns (λ x is. free_still (is_for n x.place) x is) in
    let fewer = fewer_requests others p.waiting in
    wholly q
    (record {
      placed = placed_map (unwanted_by n) keeps (λ x. as_idle (is_for n x.place) x (for_is_busy n x.place)) p.idle p.conns h.placed;
      most = kept_many p (length (map (unwanted_by n) p.conns)) (omega (arith, many)) h.most;
      served = or_kept (is_empty p.idle) (list_all (λ r. r.last) p.waiting) (is_empty p.idle) (list_all (λ r. r.last) q.waiting) h.served (λ k. k) (all_filter (λ (r : Request). r.last) others p.waiting);
      few = h.few;
      young = young_map p.limits p.moment (unwanted_by n) p.conns keeps (λ x is. stays_itself (is_for n x.place) x is) (young_at p h);
      none = or_kept (not p.closed) (is_empty p.idle && is_empty p.waiting) (not p.closed) (is_empty p.idle && is_empty q.waiting) h.none (λ k. k) (λ k. and_kept (is_empty p.idle) (is_empty p.waiting) (is_empty p.idle) (is_empty q.waiting) k (λ m. m) (empty_filter others p.waiting));
    })
    (enough_kept (length p.waiting) (free_openings p) (most_allowed p) (open_count p) (length q.waiting) (free_openings q) (most_allowed q) (open_count q) h.enough (omega (arith, frees, fewer)) (omega (arith, many)))

closed_rests : (p : Pooled) → AtRest p → AtRest (made (moves_closed p) (shut p))
closed_rests p h =
    let s = shut p in
    let ms = closings_of_close s in
    let q = made ms s in
    let closes = settling.all_close s in
    let left = leaves ms s closes in
    let keeps = λ (x : Conn). keeps_number (is_opening (Some x.place)) x in
    let placed = placed_map unwanted keeps (λ x. as_idle (is_opening (Some x.place)) x (opening_is_busy x.place)) p.idle p.conns h.placed in
    let many = length-map p.conns unwanted in
    let settled = settling.all_settle s placed (kept_many p (length (map unwanted p.conns)) (omega (arith, many)) h.most) (or_right (is_empty s.idle) true refl) in
    let young = young_map p.limits p.moment unwanted p.conns keeps (λ x is. stays_itself (is_opening (Some x.place)) x is) (young_at p h) in
    wholly q
    (record {
      placed = settled.placed;
      most = settled.most;
      served = settled.served;
      few = settling.settled_few ms s closes h.few;
      young = settling.settled_young ms s closes (closings_young ms s closes young);
      none = or_right (not q.closed) (is_empty q.idle && is_empty q.waiting) (both (is_empty q.idle) (is_empty q.waiting) (settling.all_gone s placed) (ap (λ (rs : List Request). is_empty rs) left.waiting));
    })
    (settling.settled_enough ms s closes settled.free (or_left (nat_le 0 (free_openings s)) (nat_le (most_allowed s) (open_count s)) (le_true 0 (free_openings s) (omega arith))))

idle_set_rests : (n : ℤ) (p : Pooled) → AtRest p → AtRest (made (moves_idle_set n p) (idle_set n p))
idle_set_rests n p h =
    let s = idle_set n p in
    let ms = closings_of_setting s in
    let closes = settling.surplus_closes s in
    let settled = settling.surplus_settles s h.placed h.most h.served in
    wholly (made ms s)
    (record {
      placed = settled.placed;
      most = settled.most;
      served = settled.served;
      few = settling.surplus_few s;
      young = settling.settled_young ms s closes (closings_young ms s closes (young_at p h));
      none = settling.settled_none ms s closes h.none;
    })
    (settling.settled_enough ms s closes settled.free h.enough)

open_set_rests : (n : ℤ) (p : Pooled) → AtRest p → AtRest (made (moves_open_set n p) (open_set n p))
open_set_rests n p h =
    let s = open_set n p in
    let ms = closings_of_setting s in
    let closes = settling.surplus_closes s in
    let settled = settling.surplus_settles s h.placed h.most h.served in
    resting.then_rests ms s
    (record {
      placed = settled.placed;
      most = settled.most;
      served = settled.served;
      few = settling.surplus_few s;
      young = settling.settled_young ms s closes (closings_young ms s closes (young_at p h));
      none = settling.settled_none ms s closes h.none;
    })

lifetime_set_rests : (d : ℤ) (p : Pooled) → AtRest p → AtRest (made (closings_of_tick (lifetime_set d p)) (lifetime_set d p))
lifetime_set_rests d p h = settling.outdated_rests (lifetime_set d p) h.placed h.most h.enough h.served h.few h.none

idle_time_set_rests : (d : ℤ) (p : Pooled) → AtRest p → AtRest (made (closings_of_tick (idle_time_set d p)) (idle_time_set d p))
idle_time_set_rests d p h = settling.outdated_rests (idle_time_set d p) h.placed h.most h.enough h.served h.few h.none

ticked_rests : (now : ℕ) (p : Pooled) → AtRest p → AtRest (made (closings_of_tick (ticked now p)) (ticked now p))
ticked_rests now p h = settling.outdated_rests (ticked now p) h.placed h.most h.enough h.served h.few h.none

fresh_rests : AtRest fresh
fresh_rests = record { placed = λ c. refl; most = refl; enough = refl; served = refl; few = refl; young = refl; none = refl }

after_one : (c : Call) (p : Pooled) → AtRest p → May c p → AtRest (after c p)
after_one (call.Ask r) p h may = resting.asked_rests r p h
after_one (call.Opened c) p h may = resting.opened_call_rests c p h may
after_one (call.OpenFailed c) p h may = resting.failed_rests c p h may
after_one (call.GiveBack fate c) p h may = resting.given_back_rests fate c p h may
after_one (call.LendHouse c) p h may = resting.house_rests c (next_tenure p c) p h may
after_one (call.GoneFrom c) p h may = resting.gone_rests c p h may
after_one (call.Withdraw n) p h may = withdrawn_rests n p h
after_one (call.SetOpen n) p h may = open_set_rests n p h
after_one (call.SetIdle n) p h may = idle_set_rests n p h
after_one (call.SetLifetime d) p h may = lifetime_set_rests d p h
after_one (call.SetIdleTime d) p h may = idle_time_set_rests d p h
after_one (call.Tick now) p h may = ticked_rests now p h
after_one call.Close p h may = closed_rests p h
after_one call.Read p h may = h

after_more : (calls : List Call) (p : Pooled) → AtRest p → AllMay calls p → AtRest (after_all calls p)
after_more [] p h may = h
after_more (c ∷ later) p h may = after_more later (after c p) (after_one c p h may.0) may.1

pub rests_after_each_call : RestsAfterEachCall
rests_after_each_call = record { at_first = fresh_rests; after_a_call = after_one; after_all_calls = λ calls may. after_more calls fresh fresh_rests may }
