-- Lines that ask for one step or for none: the proofs evaluate what each such line asks of its part.
use Rattle.std.proofs.Common.{◌≡◌, ℕ, ◌==◌, Bool, true, false, not, ◌&&◌, ◌||◌, cond, List, [], ◌∷◌, Option, Some, None, is_none, refl, sym, ap, ◌∙◌}
use Rattle.dsql_laws_calls.specs.journal.declared.entry.Entry.{Entry}
use Rattle.dsql_laws_calls.specs.journal.Readers.{is_empty}
use Rattle.dsql_laws_calls.specs.history.declared.event.Event.{Event}
use Rattle.dsql_laws_calls.specs.history.declared.event.Event.TheVariants.{Entered, Heard, Pool, Waits, Replied}
use Rattle.dsql_laws_calls.specs.history.declared.event.Op.{Op}
use Rattle.dsql_laws_calls.specs.history.declared.record.Stand.{Stand}
use Rattle.dsql_laws_calls.specs.history.declared.record.Stand.TheVariants.{Sends}
use Rattle.dsql_laws_calls.specs.history.Legal.{Lawful}
use Rattle.dsql_laws_calls.specs.history.Readers.Clients.{call_of, is_free}
use Rattle.dsql_laws_calls.specs.history.Readers.Unfinished.{is_unfinished}
use Rattle.dsql_laws_calls.specs.history.Rules.Course.{is_from_outside}
use Rattle.dsql_laws_calls.specs.history.Rules.Flights.{is_blocked, is_in_flight}
use Rattle.dsql_laws_calls.specs.history.Rules.Stands.{stand}
use Rattle.dsql_laws_calls.proofs.laws.Numbered.{unfinished_from_one}
use Rattle.dsql_laws_calls.proofs.laws.Truths.{or_first, or_second}
use Rattle.dsql_laws_calls.proofs.laws.Tests.{both, same_itself, same_number, together}
use Rattle.dsql_follows.specs.declared.line.Line.{Line}
use Rattle.dsql_follows.specs.declared.line.Line.TheVariants.{Start, Step, StepHouse}
use Rattle.dsql_follows.specs.Moments.{Moment, Passed, kept, met, stepping, takes_permit}
use Rattle.dsql_follows.specs.Splits.{is_sending}
use Rattle.dsql_follows.specs.Turns.{can_move, first_chore, is_it}
use Rattle.dsql_follows.specs.Sentences.{after_part, carries, enters_at_once, enters_now, goes_on_by_itself, hears, is_answer_to, is_chore_of, is_entry_of, is_next, is_one_step, is_whole, may_enter, oldest, passed, runs_on, sets_at_once, starts_alone, steps_call, steps_free, steps_once, tidies_once, wakes, woken}
use Rattle.dsql_laws_steps.specs.Steps.{IsAtRest, IsStep, goes_by_itself, stepped}
use Rattle.dsql_laws_steps.specs.Whole.{Steps}
use Rattle.dsql_laws_steps.proofs.AddedUp.{no_steps, steps_made}
use Rattle.dsql_laws_steps.proofs.Later.{step_is_its}
use Rattle.dsql_laws_lines.specs.Running.{FollowsTo}
use Rattle.dsql_laws_lines.proofs.AddedUp.{one_step}
use Rattle.dsql_laws_lines.proofs.Made.{its_call}
use Rattle.dsql_laws_lines.proofs.OnTheRun.{entry_first, part_of}

-- Whole steps that meet what a line asks for follow the line, if the line doesn't run on.

record Asks (m : Moment) (line : Line) (events : List Event) : Type 0 where
  entered : enters_at_once m (part_of line events) ≡ true
  set : sets_at_once m (part_of line events) ≡ true
  started : starts_alone m (part_of line events) ≡ true
  stepped : steps_once m (part_of line events) ≡ true
  tidied : tidies_once m (part_of line events) ≡ true

single : (m : Moment) (line : Line) (events : List Event) (after now : Moment) → Steps (met line m) events after → runs_on line ≡ false → Asks m line events → after_part m (part_of line events) ≡ now → FollowsTo m line events now
single m line events after now steps alone asks is = (
  record {
    steps = (steps_made (met line m) after events steps).0;
    entered = asks.entered;
    set = asks.set;
    started = asks.started;
    stepped = asks.stepped;
    tidied = asks.tidied;
    in_turn = or_first (not (runs_on line)) _ (ap not alone);
    run_out = or_first (not (runs_on line)) _ (ap not alone);
  },
  is,
)

-- No events after a line are whole steps.
nothing : (m : Moment) (line : Line) → IsAtRest m → is_whole m ≡ true → Steps (met line m) [] (met line m)
nothing m line rest whole = no_steps (met line m) (ap (met line) rest) whole

-- One step after a line is a run of whole steps.
one : (m : Moment) (line : Line) (first : Event) (n : ℕ) (events : List Event) → IsAtRest m → is_whole m ≡ true → IsStep (met line m) first n events → may_enter (met line m) first ≡ true
    → is_whole (stepped (met line m) first n events) ≡ true → Steps (met line m) events (stepped (met line m) first n events)
one m line first n events rest whole s may after = one_step (met line m) first n events (ap (met line) rest) whole s may after

-- A line that holds its call.

pub start_kept : (m : Moment) (client : ℕ) (op : Op) → IsAtRest m → is_whole m ≡ true → enters_now m client ≡ false → FollowsTo m (Start client op) [] (met (Start client op) m)
start_kept m client op rest whole none =
    let line = Start client op in
    single m line [] (met line m) (met line m) (nothing m line rest whole) refl
    (record {
      entered = or_first (not (enters_now m client)) false (ap not none);
      set = refl;
      started = ap (λ b. cond b (is_one_step []) true) none;
      stepped = refl;
      tidied = refl;
    })
    (ap (met line) rest)

pub start_enters : (m : Moment) (client : ℕ) (op : Op) (first : Event) (n k : ℕ) (entered : Op) (events : List Event) → IsAtRest m → is_whole m ≡ true → enters_now m client ≡ true
    → first ≡ Entered client k entered → IsStep (met (Start client op) m) first n events → may_enter (met (Start client op) m) first ≡ true → is_whole (stepped (met (Start client op) m) first n events) ≡ true
    → FollowsTo m (Start client op) events (stepped (met (Start client op) m) first n events)
start_enters m client op first n k entered events rest whole enters is s may after =
    let line = Start client op in
    let ps = passed (met line m) events in
    single m line events (stepped (met line m) first n events) (stepped (met line m) first n events) (one m line first n events rest whole s may after) refl
    (record {
      entered = or_second (not (enters_now m client)) (is_entry_of client (oldest ps)) (entry_first (met line m) first client n k entered events s is);
      set = refl;
      started = ap (λ b. cond b (is_one_step ps) (is_empty ps)) enters ∙ s.one;
      stepped = refl;
      tidied = refl;
    })
    s.now

-- A line of a single step: its part must only meet what the line asks of the client's call.

stepping_once : (m : Moment) (client : ℕ) (events : List Event) (after now : Moment) → Steps (met (Step client) m) events after → steps_once m (part_of (Step client) events) ≡ true
    → woken m (Step client) after ≡ now → FollowsTo m (Step client) events now
stepping_once m client events after now steps stepped is =
    single m (Step client) events after now steps refl (record { entered = refl; set = refl; started = refl; stepped = stepped; tidied = refl })
    (ap (woken m (Step client)) steps.now_is ∙ is)

-- If the client's call couldn't move, the moment stays as it is.
unwoken : (m : Moment) (client n : ℕ) (now : Moment) → n ≡ call_of m.past client → can_move m n ≡ false → woken m (Step client) now ≡ now
unwoken m client n now its still =
    let still_its : can_move m (call_of m.past client) ≡ false = ap (can_move m) (sym its) ∙ still in
    ap (λ b. record now { flights = cond b (takes_permit (call_of m.past client) now).flights now.flights }) still_its

-- If the client's call could move, it takes its permit.
woken_so : (m : Moment) (client n : ℕ) (now : Moment) → n ≡ call_of m.past client → can_move m n ≡ true → woken m (Step client) now ≡ takes_permit n now
woken_so m client n now its moves =
    let moves_its : can_move m (call_of m.past client) ≡ true = ap (can_move m) (sym its) ∙ moves in
    ap (λ b. record now { flights = cond b (takes_permit (call_of m.past client) now).flights now.flights }) moves_its ∙ ap (λ k. takes_permit k now) (sym its)

-- A single step of a free client.

pub nobody_moves : (m : Moment) → Lawful m.past → can_move m 0 ≡ false
nobody_moves m lawful = by (is_unfinished m.past 0) refl
  where
    by : (b : Bool) → is_unfinished m.past 0 ≡ b → (b && (is_in_flight 0 m.flights || not (is_blocked m.flights 0 (stand m.past 0)))) ≡ false
    by true is = absurd (unfinished_from_one m.past 0 lawful is refl)
    by false is = refl

free_unwoken : (m : Moment) (client : ℕ) (now : Moment) → is_free m.past client ≡ true → can_move m 0 ≡ false → woken m (Step client) now ≡ now
free_unwoken m client now free still = unwoken m client 0 now (sym (same_number (call_of m.past client) 0 free)) still

free_steps : (m : Moment) (client : ℕ) (events : List Event) → is_free m.past client ≡ true → steps_free m (passed (met (Step client) m) events) client ≡ true → steps_once m (part_of (Step client) events) ≡ true
free_steps m client events free h =
    let ps = passed (met (Step client) m) events in
    ap (λ b. cond b (steps_free m ps client) (steps_call m ps (call_of m.past client))) free ∙ h

pub free_stays : (m : Moment) (client : ℕ) → IsAtRest m → is_whole m ≡ true → is_free m.past client ≡ true → can_move m 0 ≡ false → is_empty (kept m client) ≡ true
    → FollowsTo m (Step client) [] (met (Step client) m)
free_stays m client rest whole free still none =
    stepping_once m client [] (met (Step client) m) (met (Step client) m) (nothing m (Step client) rest whole)
    (free_steps m client [] free (ap (λ b. cond b true (is_one_step [] && is_entry_of client (oldest []))) none))
    (free_unwoken m client (met (Step client) m) free still)

next_some : (op : Op) (lines : List Line) → is_next op lines ≡ true → is_empty lines ≡ false
next_some op [] h = absurd cc
next_some op (line ∷ lines) h = refl

pub free_enters : (m : Moment) (client : ℕ) (first : Event) (n k : ℕ) (op : Op) (events : List Event) → IsAtRest m → is_whole m ≡ true → is_free m.past client ≡ true → can_move m 0 ≡ false
    → first ≡ Entered client k op → IsStep (met (Step client) m) first n events → may_enter (met (Step client) m) first ≡ true → is_whole (stepped (met (Step client) m) first n events) ≡ true
    → FollowsTo m (Step client) events (stepped (met (Step client) m) first n events)
free_enters m client first n k op events rest whole free still is s may after =
    let there = met (Step client) m in
    let ps = passed there events in
    let so : may_enter there (Entered client k op) ≡ true = sym (ap (may_enter there) is) ∙ may in
    let some : is_empty (kept m client) ≡ false = next_some op (kept m client) (both (is_free m.past client) (is_next op (kept m client)) so).1 in
    stepping_once m client events (stepped there first n events) (stepped there first n events) (one m (Step client) first n events rest whole s may after)
    (free_steps m client events free
    (ap (λ b. cond b (is_empty ps) (is_one_step ps && is_entry_of client (oldest ps))) some ∙ together (is_one_step ps) (is_entry_of client (oldest ps)) s.one (entry_first there first client n k op events s is)))
    (free_unwoken m client (stepped there first n events) free still)

-- A single step of a client with a call.

call_steps : (m : Moment) (client n : ℕ) (events : List Event) → is_free m.past client ≡ false → n ≡ call_of m.past client → steps_call m (passed (met (Step client) m) events) n ≡ true
    → steps_once m (part_of (Step client) events) ≡ true
call_steps m client n events busy its h =
    let ps = passed (met (Step client) m) events in
    ap (λ b. cond b (steps_free m ps client) (steps_call m ps (call_of m.past client))) busy ∙ (ap (steps_call m ps) (sym its) ∙ h)

-- At the end of a step its call has already taken its permit.
step_woken : (m : Moment) (client n : ℕ) (first : Event) (events : List Event) → n ≡ call_of m.past client → can_move m n ≡ true → Steps (met (Step client) m) events (stepped (met (Step client) m) first n events)
    → woken m (Step client) (stepped (met (Step client) m) first n events) ≡ stepped (met (Step client) m) first n events
step_woken m client n first events its moves steps = woken_so m client n (stepped (met (Step client) m) first n events) its moves ∙ steps.rest

pub call_answered : (m : Moment) (client n : ℕ) (first : Event) (e : Entry) (events : List Event) → IsAtRest m → is_whole m ≡ true → is_free m.past client ≡ false → n ≡ call_of m.past client
    → is_in_flight n m.flights ≡ true → first ≡ Heard e → e.call_no ≡ n → IsStep (met (Step client) m) first n events → is_whole (stepped (met (Step client) m) first n events) ≡ true
    → FollowsTo m (Step client) events (stepped (met (Step client) m) first n events)
call_answered m client n first e events rest whole busy its flies heard number s after =
    let there = met (Step client) m in
    let ps = passed there events in
    let steps = one m (Step client) first n events rest whole s (ap (may_enter there) heard) after in
    let hears_it : hears n (oldest ps) ≡ true = ap (hears n) s.oldest ∙ (ap (is_answer_to n) heard ∙ (ap (λ k. k == n) number ∙ same_itself n)) in
    let unfinished : is_unfinished m.past n ≡ true = ap (is_unfinished m.past) its ∙ (its_call m.past client busy).0 in
    let moves : can_move m n ≡ true = together (is_unfinished m.past n) _ unfinished (or_first (is_in_flight n m.flights) _ flies) in
    stepping_once m client events (stepped there first n events) (stepped there first n events) steps
    (call_steps m client n events busy its
    (ap (λ b. cond b (is_one_step ps && hears n (oldest ps)) (cond (can_move m n) (wakes n ps (stand m.past n)) (is_empty ps))) flies
    ∙ together (is_one_step ps) (hears n (oldest ps)) s.one hears_it))
    (step_woken m client n first events its moves steps)

-- A single step of a call that isn't in flight asks the call to go on, if it may move.
parked_steps : (m : Moment) (n : ℕ) (ps : List Passed) (moves : Bool) → is_in_flight n m.flights ≡ false → can_move m n ≡ moves → cond moves (wakes n ps (stand m.past n)) (is_empty ps) ≡ true
    → steps_call m ps n ≡ true
parked_steps m n ps moves parked is h =
    ap (λ b. cond b (is_one_step ps && hears n (oldest ps)) (cond (can_move m n) (wakes n ps (stand m.past n)) (is_empty ps))) parked
    ∙ (ap (λ b. cond b (wakes n ps (stand m.past n)) (is_empty ps)) is ∙ h)

pub call_sends : (m : Moment) (client n c : ℕ) → IsAtRest m → is_whole m ≡ true → is_free m.past client ≡ false → n ≡ call_of m.past client → is_in_flight n m.flights ≡ false → can_move m n ≡ true
    → stand m.past n ≡ Some (Sends c) → FollowsTo m (Step client) [] (takes_permit n (met (Step client) m))
call_sends m client n c rest whole busy its parked moves at =
    let there = met (Step client) m in
    stepping_once m client [] there (takes_permit n there) (nothing m (Step client) rest whole)
    (call_steps m client n [] busy its (parked_steps m n [] true parked moves (ap (wakes n []) at)))
    (woken_so m client n there its moves)

pub call_stays : (m : Moment) (client n : ℕ) → IsAtRest m → is_whole m ≡ true → is_free m.past client ≡ false → n ≡ call_of m.past client → is_in_flight n m.flights ≡ false → can_move m n ≡ false
    → FollowsTo m (Step client) [] (met (Step client) m)
call_stays m client n rest whole busy its parked still =
    let there = met (Step client) m in
    stepping_once m client [] there there (nothing m (Step client) rest whole) (call_steps m client n [] busy its (parked_steps m n [] false parked still refl)) (unwoken m client n there its still)

-- A call that doesn't send goes on in a step that shows.
wakes_shown : (n : ℕ) (ps : List Passed) (at : Option Stand) → is_sending at ≡ false → is_one_step ps ≡ true → goes_on_by_itself n (oldest ps) ≡ true → wakes n ps at ≡ true
wakes_shown n ps (Some (Sends c)) h a b = absurd cc
wakes_shown n ps _ h a b = together (is_one_step ps) _ a b

from_inside : (n : ℕ) (e : Event) → goes_by_itself n e ≡ true → is_from_outside e ≡ false
from_inside n (Replied k reply) h = refl
from_inside n (Waits k) h = refl
from_inside n (Pool move) h = refl
from_inside n e h = absurd cc

enters_none : (m : Moment) (n : ℕ) (e : Event) → goes_by_itself n e ≡ true → may_enter m e ≡ true
enters_none m n (Replied k reply) h = refl
enters_none m n (Waits k) h = refl
enters_none m n (Pool move) h = refl
enters_none m n e h = absurd cc

pub call_goes : (m : Moment) (client n : ℕ) (first : Event) (events : List Event) → IsAtRest m → is_whole m ≡ true → is_free m.past client ≡ false → n ≡ call_of m.past client → is_in_flight n m.flights ≡ false
    → can_move m n ≡ true → is_sending (stand m.past n) ≡ false → goes_by_itself n first ≡ true → IsStep (met (Step client) m) first n events → is_whole (stepped (met (Step client) m) first n events) ≡ true
    → FollowsTo m (Step client) events (stepped (met (Step client) m) first n events)
call_goes m client n first events rest whole busy its parked moves silent itself s after =
    let there = met (Step client) m in
    let ps = passed there events in
    let steps = one m (Step client) first n events rest whole s (enters_none there n first itself) after in
    let its_step : (stepping there first == n) ≡ true = ap (λ k. k == n) (step_is_its there first n events s) ∙ same_itself n in
    let goes : goes_on_by_itself n (oldest ps) ≡ true =
    ap (goes_on_by_itself n) s.oldest ∙ together (not (is_from_outside first)) (stepping there first == n) (ap not (from_inside n first itself)) its_step in
    stepping_once m client events (stepped there first n events) (stepped there first n events) steps
    (call_steps m client n events busy its (parked_steps m n ps true parked moves (wakes_shown n ps (stand m.past n) silent s.one goes)))
    (step_woken m client n first events its moves steps)

-- A single step of the layer.

pub house_stays : (m : Moment) → IsAtRest m → is_whole m ≡ true → first_chore m ≡ None → FollowsTo m StepHouse [] (met StepHouse m)
house_stays m rest whole none =
    single m StepHouse [] (met StepHouse m) (met StepHouse m) (nothing m StepHouse rest whole) refl
    (record { entered = refl; set = refl; started = refl; stepped = refl; tidied = ap (λ o. cond (is_none o) true (is_one_step [] && carries m (oldest []))) none })
    (ap (met StepHouse) rest)

pub house_tidies : (m : Moment) (first : Event) (n : ℕ) (e : Entry) (events : List Event) → IsAtRest m → is_whole m ≡ true → first ≡ Heard e → e.call_no ≡ 0 → first_chore m ≡ Some e.conn
    → IsStep (met StepHouse m) first n events → is_whole (stepped (met StepHouse m) first n events) ≡ true → FollowsTo m StepHouse events (stepped (met StepHouse m) first n events)
house_tidies m first n e events rest whole heard layer on s after =
    let there = met StepHouse m in
    let ps = passed there events in
    let chore : is_chore_of m (Heard e) ≡ true =
    together (e.call_no == 0) (is_it (first_chore m) e.conn) (ap (λ k. k == 0) layer) (ap (λ o. is_it o e.conn) on ∙ same_itself e.conn) in
    let carried : carries m (oldest ps) ≡ true = ap (carries m) s.oldest ∙ (ap (is_chore_of m) heard ∙ chore) in
    single m StepHouse events (stepped there first n events) (stepped there first n events) (one m StepHouse first n events rest whole s (ap (may_enter there) heard) after) refl
    (record {
      entered = refl;
      set = refl;
      started = refl;
      stepped = refl;
      tidied = ap (λ o. cond (is_none o) (is_empty ps) (is_one_step ps && carries m (oldest ps))) on ∙ together (is_one_step ps) (carries m (oldest ps)) s.one carried;
    })
    s.now
