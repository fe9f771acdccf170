-- The run goes on by the step whose turn it is. The argument takes the layer's chore, an entry, and a step of a
-- call in turn.
use Rattle.std.proofs.Common.{◌≡◌, ◌<◌, ℕ, true, false, not, ◌&&◌, List, ◌++◌, length, Option, None, refl, ap, sym, subst, ◌∙◌, arith}
use Rattle.std.specs.Prelude.{Result, Ok, Err, OnErr, OnOk}
use Rattle.std.proofs.lemmas.Result.{on_ok_weaker}
use Rattle.dsql_engine_laws.specs.driver.Wires.{WireTold}
use Rattle.dsql_engine_laws.specs.journal.Readers.{is_empty}
use Rattle.dsql_engine_laws.specs.history.declared.event.Event.{Event}
use Rattle.dsql_engine_laws.specs.history.declared.record.Flight.{Flight}
use Rattle.dsql_engine_laws.specs.history.Legal.{Legal}
use Rattle.dsql_engine_laws.specs.history.Readers.Calls.{is_busy}
use Rattle.dsql_engine_laws.specs.history.Readers.Clients.{call_of}
use Rattle.dsql_engine_laws.specs.history.Rules.Flights.{is_in_flight, without_flight}
use Rattle.dsql_engine_laws.specs.laws_ends.Over.{may_move}
use Rattle.dsql_engine_laws.specs.history.Rules.House.{chore_due}
use Rattle.dsql_engine_laws.specs.history.Rules.Stands.{stand}
use Rattle.dsql_engine_laws.specs.follows.Moments.{Moment}
use Rattle.dsql_engine_laws.specs.follows.Turns.{is_turn_of}
use Rattle.dsql_player_wires.specs.Seats.{seat}
use Rattle.dsql_engine_laws.specs.wire.Journaled.{Journaled}
use Rattle.dsql_player_wires.specs.Made.{Made}
use Rattle.dsql_player_wires.specs.Stopped.{HearsAtMost}
use Rattle.dsql_player_wires.specs.Told.{fleet_told}
use Rattle.dsql_player_wires.specs.WiresFit.{KeepsFit, KeepsPlans}
use Rattle.dsql_player.specs.declared.halt.Halt.{Halt}
use Rattle.dsql_player.specs.Carried.{KeepsWires}
use Rattle.dsql_player.specs.Playing.{IsAt, IsReady, Playing}
use Rattle.dsql_player.specs.Acts.{RunsTo}
use Rattle.dsql_player.specs.Stepping.{GoesOn, HearsAnswer, InTurn, IsEntryOf, IsFirstToGo, MakesChore, RunsOut, RunsSoFar, TakesStep, Wakes, goes}
use Rattle.dsql_player.proofs.Fitting.{fits_unheard, plans_unheard, stops_unheard}
use Rattle.dsql_player.proofs.Going.{ran_out, so_far}
use Rattle.dsql_player.proofs.MayGo.{goes_busy, goes_free}
use Rattle.dsql_player.proofs.Standing.{answer_taken, has_lines, has_lines_before, landed_alike}
use Rattle.dsql_player.proofs.Turning.{answer_in_turn, chore_in_turn, entry_in_turn, itself_in_turn, out_at, turn_at}
use Rattle.dsql_player.specs.Keeping.{ActsUnheard, SameCourse, TakesUp}

always : {A E P : Type 0} (result : Result A E) → P → OnOk result P
always (Ok x) p = p
always (Err e) p = tt

always_err : {A E P : Type 0} (result : Result A E) → P → OnErr result P
always_err (Ok x) p = tt
always_err (Err e) p = p

-- After a line was taken up, and while the run goes on.
pub takes_up_then : (more : List ℕ → ℕ) (old mid new : Playing) → TakesUp more old mid → SameCourse mid new → TakesUp more old new
takes_up_then more old mid new a b = record { ended = b.ended ∙ a.ended; released = b.released ∙ a.released; named = λ label. let later = b.named label in let first = a.named label in omega (arith, later, first) }

pub course_then : (old mid new : Playing) → SameCourse old mid → SameCourse mid new → SameCourse old new
course_then old mid new a b = takes_up_then (λ label. 0) old mid new a b

-- The wires.

-- An act in which nothing is heard keeps the wires.
pub keeps_unheard : {A W : Type 0} (heard : W → Option WireTold) (result : Result A Halt) (old new : Playing) (slots : List (Option (Journaled W)))
    → ActsUnheard result old new → KeepsWires heard result old new slots slots
keeps_unheard heard result old new slots a = record {
  ready = a.ready;
  wires = always result (fits_unheard heard old.past new.past slots a.unheard);
  plans = always result (plans_unheard heard old.past new.past slots a.unheard);
  told = always result a.unheard.told;
  stops = always_err result (stops_unheard heard old.past new.past slots a.unheard);
  legal = a.legal;
}

-- That the wires are kept depends on the old history only.
pub keeps_from : {A W : Type 0} (heard : W → Option WireTold) (result : Result A Halt) (old mid new : Playing) (before after : List (Option (Journaled W)))
    → mid.past ≡ old.past → KeepsWires heard result mid new before after → KeepsWires heard result old new before after
keeps_from heard result old mid new before after same k = record {
  ready = k.ready;
  wires = subst (λ (h : List Event). OnOk result (KeepsFit heard h new.past before after)) same k.wires;
  plans = subst (λ (h : List Event). OnOk result (KeepsPlans heard h new.past before after)) same k.plans;
  told = subst (λ (h : List Event). OnOk result ((made : List Made) → fleet_told made new.past ≡ fleet_told made h)) same k.told;
  stops = subst (λ (h : List Event). OnErr result (HearsAtMost heard h new.past before after)) same k.stops;
  legal = k.legal;
}

-- The client whose turn it is.

turn : (m : Moment) (p : Playing) (client : ℕ) → IsReady p → IsAt m p → chore_due p.past ≡ None → IsFirstToGo p client → is_turn_of m client ≡ true
turn m p client ready at none first = turn_at m p client ready.legal.lawful at none first

no_less : (b : _) → not b ≡ true → b ≡ false
no_less true h = absurd cc
no_less false h = refl

right : (a b : _) → (a && b) ≡ true → b ≡ true
right true b h = h
right false b h = absurd cc

-- If the client whose turn it is is free, it has a kept line.
pub kept_to_go : (p : Playing) (client : ℕ) → IsFirstToGo p client → is_busy client p.past ≡ false → is_empty (seat p.seats client).kept ≡ false
kept_to_go p client first free = no_less (is_empty (seat p.seats client).kept) (sym (goes_free p client free) ∙ first.may)

-- If the client whose turn it is has a call, the call may move.
pub moves_to_go : (p : Playing) (client : ℕ) → IsFirstToGo p client → is_busy client p.past ≡ true → may_move p.past p.flights (call_of p.past client) ≡ true
moves_to_go p client first busy = right (not (seat p.seats client).held) (may_move p.past p.flights (call_of p.past client)) (sym (goes_busy p client busy) ∙ first.may)

-- The client's step comes in its turn.

pub entry_next : {A : Type 0} (result : Result A Halt) (old new : Playing) (client : ℕ) → IsReady old → chore_due old.past ≡ None → IsFirstToGo old client → is_busy client old.past ≡ false
    → OnOk result ((m : Moment) → IsAt m old → TakesStep m old new (IsEntryOf client)) → OnOk result ((m : Moment) → IsAt m old → TakesStep m old new (InTurn m))
entry_next result old new client ready none first free steps =
    on_ok_weaker result
    (λ (step : (m : Moment) → IsAt m old → TakesStep m old new (IsEntryOf client)) m at.
    entry_in_turn m old new client ready.legal.lawful at (turn m old client ready at none first) free (step m at))
    steps

pub itself_next : (old new : Playing) (client : ℕ) → IsReady old → chore_due old.past ≡ None → IsFirstToGo old client → is_busy client old.past ≡ true
    → is_in_flight (call_of old.past client) old.flights ≡ false → ((m : Moment) → IsAt m old → Wakes true m (call_of old.past client) old new)
    → (m : Moment) → IsAt m old → TakesStep m old new (InTurn m)
itself_next old new client ready none first busy parked wakes m at =
    itself_in_turn m old new client ready.legal.lawful at (turn m old client ready at none first) busy parked (wakes m at)

-- A step depends on the old history only.
stepped_from : (m : Moment) (old mid new : Playing) (kind : Event → ℕ → Type 0) → mid.past ≡ old.past → TakesStep m mid new kind → TakesStep m old new kind
stepped_from m old mid new kind same t = record {
  first = t.first;
  call = t.call;
  events = t.events;
  kind_is = t.kind_is;
  step = t.step;
  grows = t.grows ∙ ap (λ (h : List Event). t.events ++ h) same;
  may = t.may;
  at = t.at;
}

-- An answer to the client's call comes in its turn.
pub answer_next : {A : Type 0} (result : Result A Halt) (old new : Playing) (client : ℕ) → IsReady old → chore_due old.past ≡ None → IsFirstToGo old client → is_busy client old.past ≡ true
    → Legal new.past → OnOk result (HearsAnswer (call_of old.past client) old new) → OnOk result ((m : Moment) → IsAt m old → TakesStep m old new (InTurn m))
answer_next result old new client ready none first busy legal hears =
    let n : ℕ = call_of old.past client in
    on_ok_weaker result
    (λ (h : HearsAnswer n old new) m (at : IsAt m old).
    answer_in_turn m old old new client ready.legal.lawful at (turn m old client ready at none first) busy
    (answer_taken m n old new (has_lines m old at) at.rest (ap (λ (flights : List Flight). without_flight n flights) at.flights) legal.lawful h))
    hears

-- So does an answer to its call after that was woken first, which didn't show.
pub answer_after : {A : Type 0} (result : Result A Halt) (old mid new : Playing) (client : ℕ) → IsReady old → chore_due old.past ≡ None → IsFirstToGo old client → is_busy client old.past ≡ true
    → mid.past ≡ old.past → ((m : Moment) → IsAt m old → Wakes false m (call_of old.past client) old mid)
    → Legal new.past → OnOk result (HearsAnswer (call_of mid.past client) mid new) → OnOk result ((m : Moment) → IsAt m old → TakesStep m old new (InTurn m))
answer_after result old mid new client ready none first busy same wakes legal hears =
    let n : ℕ = call_of old.past client in
    on_ok_weaker result
    (λ (h : HearsAnswer (call_of mid.past client) mid new) m (at : IsAt m old).
    let w = (wakes m at).1 in
    let its : HearsAnswer n mid new = subst (λ (past : List Event). HearsAnswer (call_of past client) mid new) same h in
    let alike : without_flight n m.flights ≡ without_flight n mid.flights = sym (landed_alike n (stand m.past n) m.flights) ∙ ap (λ (flights : List Flight). without_flight n flights) w.flights in
    stepped_from m old mid new (InTurn m) same
    (answer_in_turn m old mid new client ready.legal.lawful at (turn m old client ready at none first) busy
    (answer_taken m n mid new (has_lines_before m n mid w) at.rest alike legal.lawful its)))
    hears

-- The run goes on by a step.

pub goes_by_chore : (old new : Playing) → MakesChore true old new → GoesOn true old new
goes_by_chore old new made = (made.0, λ m at. chore_in_turn m old new at (made.1 m at))

pub goes_after : (old mid new : Playing) → MakesChore false old mid → length mid.past < length new.past → ((m : Moment) → IsAt m mid → TakesStep m mid new (InTurn m)) → GoesOn true old new
goes_after old mid new made grows step = subst (λ (p : Playing). GoesOn true p new) made.0 (grows, step)

pub goes_no_more : (old mid : Playing) → MakesChore false old mid → ((client : ℕ) → goes mid client ≡ false) → GoesOn false old mid
goes_no_more old mid made nobody = (made.0, made.1, λ client. ap (λ (p : Playing). goes p client) (sym made.0) ∙ nobody client)

-- The end of a run.

pub still_due : (old new : Playing) → GoesOn false old new → chore_due new.past ≡ None
still_due old new last = ap (λ (p : Playing). chore_due p.past) last.0 ∙ last.1

pub still_nobody : (old new : Playing) → GoesOn false old new → (client : ℕ) → goes new client ≡ false
still_nobody old new last client = ap (λ (p : Playing). goes p client) last.0 ∙ last.2 client

pub out_after : (m : Moment) (old mid new : Playing) → IsReady new → RunsTo m old mid → GoesOn false mid new → RunsOut m old new
out_after m old mid new ready runs last =
    ran_out m old new (subst (λ (p : Playing). RunsTo m old p) (sym last.0) runs)
    (λ now at. out_at now new ready.legal.lawful at (still_due mid new last) (still_nobody mid new last))

-- If a run had to stop before its next step, its steps so far came in their turns.
pub so_far_as : (m : Moment) (old mid new : Playing) → new.past ≡ mid.past → RunsTo m old mid → RunsSoFar m old.past new.past
so_far_as m old mid new same runs = subst (λ (past : List Event). RunsSoFar m old.past past) (sym same) (so_far m old mid runs)
