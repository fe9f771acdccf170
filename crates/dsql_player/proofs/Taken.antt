-- Proves that the core may hear the answer to a driver call of the layer's own. It then finds the first one that is
-- due.
use Rattle.std.proofs.Common.{◌≡◌, ℕ, ◌<◌, ◌==◌, Bool, true, false, cond, List, [], length, Option, Some, None, is_some, refl, sym, ap, subst, ◌∙◌}
use Rattle.std.specs.Prelude.{Result, Ok, Err, IsErr, is_err, option_map}
use Rattle.dsql_engine_laws.specs.driver.Wires.{WireTold}
use Rattle.dsql_engine_laws.specs.driver.declared.wire.Fleet.{Ghosts}
use Rattle.dsql_engine_laws.specs.journal.declared.entry.Entry.{Entry}
use Rattle.dsql_engine_laws.specs.journal.declared.entry.Permit.{Permit}
use Rattle.dsql_engine_laws.specs.history.declared.event.Event.{Event}
use Rattle.dsql_engine_laws.specs.history.declared.event.Event.TheVariants.{Heard}
use Rattle.dsql_engine_laws.specs.history.declared.record.Flight.{Flight}
use Rattle.dsql_engine_laws.specs.history.Rules.Flights.{is_in_flight, without_flight}
use Rattle.dsql_engine_laws.specs.history.Rules.House.{chore_due}
use Rattle.dsql_engine_laws.specs.history.Legal.{Legal}
use Rattle.dsql_engine_laws.specs.going.declared.next.Next.{Next}
use Rattle.dsql_engine_laws.specs.going.declared.next.Next.TheVariants.{Send}
use Rattle.dsql_engine_laws.specs.going.Permits.{chore_permit}
use Rattle.dsql_engine_laws.specs.going.Stepping.{GoesOnOrRests}
use Rattle.dsql_engine.specs.Core.{Core}
use Rattle.dsql_engine.specs.Chores.{IsChore, chore_next}
use Rattle.dsql_engine.specs.Hearing.{MayBeHeard}
use Rattle.dsql_engine_laws.proofs.Made.{chore_made}
use Rattle.dsql_player_wires.specs.Seats.{Seat}
use Rattle.dsql_engine_laws.specs.laws_steps.Groups.{after_heard, most_events}
use Rattle.dsql_engine_laws.specs.tenure.Judged.{answered}
use Rattle.dsql_engine_laws.specs.Turns.{Flying}
use Rattle.dsql_engine_laws.specs.wire.Journaled.{Journaled}
use Rattle.dsql_player_wires.specs.Stopped.{RecordsAtMost}
use Rattle.dsql_player_wires.specs.Told.{FleetTells, SameAbility}
use Rattle.dsql_player_wires.specs.WiresFit.{WiresFit}
use Rattle.dsql_player.specs.declared.halt.Halt.{Halt}
use Rattle.dsql_player.specs.Acts.{TakesAnswer}
use Rattle.dsql_player.specs.Carried.{KeepsRun}
use Rattle.dsql_player.specs.Chores.{FindsChore, IsAnswered, IsToMake, SameButChore}
use Rattle.dsql_player.specs.Playing.{IsReady, Playing}
use Rattle.dsql_player.specs.Stepping.{MakesChore, leave_of}
use Rattle.dsql_player.proofs.Grouped.{Grouped}
use Rattle.dsql_player.proofs.Housekeeping.{AnswersOwn, answer_welcome, answers_own, chore_ended, chore_group, chore_longer, chore_names, chore_ready, chore_taken, own_layer, rests_so, without_none}
use Rattle.dsql_player.proofs.Keeping.{run_goes, run_stops}
use Rattle.dsql_player.proofs.Seating.{nobody_flies}
use Rattle.dsql_player.specs.Keeping.{IsTaken, SameCourse}

abbrev pub playing : List Event → ℕ → List Flight → Option ℕ → List Seat → Bool → Playing
playing past trimmed flights chore seats released = record { past = past; trimmed = trimmed; flights = flights; chore = chore; seats = seats; released = released }

-- Returns the player whose core this is.
abbrev pub player_of : Core → List Seat → Bool → Playing
player_of core seats released = playing core.past core.trimmed core.flights core.chore seats released

pub at_err : {T E : Type 0} (r : Result T E) (y : E) → r ≡ Err y → IsErr r
at_err r y is = ap is_err is

-- The answer is taken in.

-- Taking in the answer to the layer's own driver call changes no flight.
flights_stay : (past now : List Event) (flights after : List Flight) (permit : Permit) (e : Entry) (next : Next) → AnswersOwn past permit e → Flying past flights → GoesOnOrRests now (without_flight e.call_no flights) after e.call_no next → after ≡ flights
flights_stay past now flights after permit e next it flying went =
    let layer : e.call_no ≡ 0 = own_layer past permit e it in
    let none : is_in_flight 0 flights ≡ false = nobody_flies past flights it.legal.lawful flying in
    rests_so now (without_flight e.call_no flights) after e.call_no next layer went ∙ (ap (λ (n : ℕ). without_flight n flights) layer ∙ without_none 0 flights none)

-- The player takes in the answer to a call that is due, and nothing else changes.
pub takes_own : (p after : Playing) (own permit : Permit) (e : Entry) (next : Next) → AnswersOwn p.past own e → Flying p.past p.flights → e ≡ answered permit e.answer → after.past ≡ after_heard p.past e
    → GoesOnOrRests after.past (without_flight e.call_no p.flights) after.flights e.call_no next → after.chore ≡ None → after.seats ≡ p.seats → after.released ≡ p.released → Legal after.past → TakesAnswer permit e p after
takes_own p after own permit e next it flying heard grown went chore seats released legal = record {
  heard = heard;
  layer = own_layer p.past own e it;
  past = grown;
  flights = flights_stay p.past after.past p.flights after.flights own e next it flying went;
  chore = chore;
  seats = seats;
  released = released;
  legal = legal;
}

-- The player's core may hear the answer.
pub may_hear : (core : Core) (seats : List Seat) (released : Bool) (p : Playing) (e : Entry) → player_of core seats released ≡ p → IsAnswered p e → MayBeHeard core e
may_hear core seats released p e is it = answer_welcome p e core (ap (λ (v : Playing). v.past) is) (ap (λ (v : Playing). v.chore) is) it

-- The player's core takes the answer in.
pub takes_in : (core now : Core) (seats : List Seat) (released : Bool) (p : Playing) (e : Entry) (next : Next) (permit : Permit) → player_of core seats released ≡ p → IsAnswered p e → e ≡ answered permit e.answer
    → now.past ≡ after_heard core.past e → GoesOnOrRests now.past (without_flight e.call_no core.flights) now.flights e.call_no next → now.chore ≡ cond (e.call_no == 0) None core.chore → Legal now.past
    → TakesAnswer permit e p (player_of now seats released)
takes_in core now seats released p e next permit is it heard grown went chore legal =
    let old : Playing = player_of core seats released in
    let its : IsAnswered old e = subst (λ (v : Playing). IsAnswered v e) (sym is) it in
    let own : AnswersOwn core.past its.permit e = answers_own old e its in
    let free : now.chore ≡ None = chore ∙ ap (λ (n : ℕ). cond (n == 0) None core.chore) (own_layer core.past its.permit e own) in
    subst (λ (v : Playing). TakesAnswer permit e v (player_of now seats released)) is
    (takes_own old (player_of now seats released) its.permit permit e next own its.to_make.ready.flying heard grown went free refl refl legal)

module _ (permit : Permit) (e : Entry) (p after : Playing) (it : IsToMake p permit) (took : TakesAnswer permit e p after) where
  took_free : TakesAnswer permit e (record p { chore = None }) after
  took_free = record {
    heard = took.heard;
    layer = took.layer;
    past = took.past;
    flights = took.flights;
    chore = took.chore;
    seats = took.seats;
    released = took.released;
    legal = took.legal;
  }

  pub taken_group : Grouped p.past after.past (Heard e) 0
  taken_group = chore_group permit e (record p { chore = None }) after it.ready it.leave took_free

  pub taken_ready : IsReady after
  taken_ready = chore_ready permit e (record p { chore = None }) after it.ready it.leave took_free

-- The first of the layer's own calls is to be made.

-- Holds if a call is due, and this is its permit.
record TakesAnyAnswer (past : List Event) (due : Option ℕ) (permit : Permit) : Type 0 where
  first : due ≡ Some permit.conn
  leave : chore_permit past permit.conn ≡ Some permit

sent_of : (leave : Option Permit) (permit : Permit) → option_map Send leave ≡ Some (Send permit) → leave ≡ Some permit
sent_of None permit h = absurd cc
sent_of (Some q) permit h = cc

due_sent : (past : List Event) (due : Option ℕ) (permit : Permit) → Legal past → chore_next past due ≡ Some (Send permit) → TakesAnyAnswer past due permit
due_sent past None permit legal h = absurd cc
due_sent past (Some c) permit legal h =
    let is : chore_permit past c ≡ Some permit = sent_of (chore_permit past c) permit h in
    let same : permit.conn ≡ c = (chore_made past c permit legal.lawful legal.settled.nothing_owed is).conn in
    record { first = ap Some (sym same); leave = subst (λ (d : ℕ). chore_permit past d ≡ Some permit) (sym same) is }

-- If no permit was found, no call is due.
pub none_due : (past : List Event) (due : Option ℕ) (next : Next) → ((permit : Permit) → next ≡ Send permit → ⊥) → chore_next past due ≡ Some next → due ≡ None
none_due past None next none h = refl
none_due past (Some c) next none h = absurd (by (chore_permit past c) h)
  where
    by : (leave : Option Permit) → option_map Send leave ≡ Some next → ⊥
    by None k = absurd cc
    by (Some permit) k = let is : next ≡ Send permit = cc in none permit is

-- After the core has looked for a call that is due, the player is the same, except perhaps for that call.
pub core_looked : (core now : Core) (seats : List Seat) (released : Bool) (p : Playing) → player_of core seats released ≡ p → now.past ≡ core.past → now.trimmed ≡ core.trimmed → now.flights ≡ core.flights → SameButChore p (player_of now seats released)
core_looked core now seats released p is past trimmed flights =
    subst (λ (v : Playing). SameButChore v (player_of now seats released)) is (record { past = past; trimmed = trimmed; flights = flights; seats = refl; released = refl })

pub same_playing : (a b : Playing) → SameButChore b a → a.chore ≡ b.chore → a ≡ b
same_playing a b s chore =
    ap (λ (x : List Event). playing x a.trimmed a.flights a.chore a.seats a.released) s.past
    ∙ (ap (λ (x : ℕ). playing b.past x a.flights a.chore a.seats a.released) s.trimmed
    ∙ (ap (λ (x : List Flight). playing b.past b.trimmed x a.chore a.seats a.released) s.flights
    ∙ (ap (λ (x : Option ℕ). playing b.past b.trimmed b.flights x a.seats a.released) chore
    ∙ (ap (λ (x : List Seat). playing b.past b.trimmed b.flights b.chore x a.released) s.seats
    ∙ ap (λ (x : Bool). playing b.past b.trimmed b.flights b.chore b.seats x) s.released))))

module _ (old mid : Playing) (permit : Permit) (ready : IsReady old) (same : SameButChore old mid) where
  freed : record mid { chore = None } ≡ old
  freed = same_playing (record mid { chore = None }) old (record { past = same.past; trimmed = same.trimmed; flights = same.flights; seats = same.seats; released = same.released }) (sym ready.free)

  pub first_to_make : mid.chore ≡ chore_due old.past → length old.past < most_events → chore_next old.past (chore_due old.past) ≡ Some (Send permit) → IsToMake mid permit
  first_to_make chore room next =
      let due : TakesAnyAnswer old.past (chore_due old.past) permit = due_sent old.past (chore_due old.past) permit ready.legal next in
      record {
        ready = subst IsReady (sym freed) ready;
        under_way = chore ∙ due.first;
        room = subst (λ (H : List Event). length H < most_events) (sym same.past) room;
        first = ap chore_due same.past ∙ due.first;
        leave = subst (λ (H : List Event). chore_permit H permit.conn ≡ Some permit) (sym same.past) due.leave;
      }

  module _ (after : Playing) (it : IsToMake mid permit) (taken : IsTaken permit mid after) where
    took : TakesAnswer permit taken.entry old after
    took = subst (λ (p : Playing). TakesAnswer permit taken.entry p after) freed (took_free permit taken.entry mid after it taken.takes)

    leave : chore_permit old.past permit.conn ≡ Some permit
    leave = subst (λ (H : List Event). chore_permit H permit.conn ≡ Some permit) same.past it.leave

    due : chore_due old.past ≡ Some permit.conn
    due = ap chore_due (sym same.past) ∙ it.first

    pub first_makes : MakesChore true old after
    first_makes = (chore_longer permit taken.entry old after ready leave took, chore_taken permit taken.entry old after ready leave took due)

    pub first_course : SameCourse old after
    first_course = record { ended = chore_ended permit taken.entry old after ready leave took; released = taken.takes.released ∙ same.released; named = chore_names permit taken.entry old after ready leave took }

-- If there is no call to make, nothing was done.
pub none_made : (old mid : Playing) (next : Next) → IsReady old → SameButChore old mid → mid.chore ≡ chore_due old.past → chore_next old.past (chore_due old.past) ≡ Some next → ((permit : Permit) → next ≡ Send permit → ⊥)
    → MakesChore false old mid
none_made old mid next ready same chore is none =
    let nothing : chore_due old.past ≡ None = none_due old.past (chore_due old.past) next none is in
    (same_playing mid old same (chore ∙ (nothing ∙ sym ready.free)), nothing)

module _ (core now : Core) (seats : List Seat) (released : Bool) (p : Playing) (next : Next) (is : player_of core seats released ≡ p) (ready : IsReady p) (chore : IsChore core.past next now) (past : now.past ≡ core.past)
    (trimmed : now.trimmed ≡ core.trimmed) (flights : now.flights ≡ core.flights) where
  looked : SameButChore p (player_of now seats released)
  looked = core_looked core now seats released p is past trimmed flights

  looked_for : IsChore p.past next now
  looked_for = subst (λ (H : List Event). IsChore H next now) (ap (λ (v : Playing). v.past) is) chore

  pub first_sent : length p.past < most_events → (permit : Permit) → next ≡ Send permit → IsToMake (player_of now seats released) permit
  first_sent room permit sends = first_to_make p (player_of now seats released) permit ready looked looked_for.chore room (looked_for.next_is ∙ ap Some sends)

  pub first_none : ((permit : Permit) → next ≡ Send permit → ⊥) → MakesChore false p (player_of now seats released)
  first_none none = none_made p (player_of now seats released) next ready looked looked_for.chore looked_for.next_is none

-- The search finds a permit for the call, or finds that there is none to make.
pub found : (next : Next) (p now : Playing) → ((permit : Permit) → next ≡ Send permit → IsToMake now permit) → (((permit : Permit) → next ≡ Send permit → ⊥) → MakesChore false p now) → FindsChore (leave_of next) p now
found (Send permit) p now some none = some permit refl
found _ p now some none = none (λ permit is. absurd cc)

-- The run is kept.

pub none_run : {A F W : Type 0} (fleet : Ghosts F W) (heard : W → Option WireTold) (x : A) (now : F) (old mid : Playing) (slots : List (Option (Journaled W)))
    → IsReady old → MakesChore false old mid → WiresFit heard (is_some (fleet.told now)) old.past slots → KeepsRun fleet heard (Ok x) now now old mid slots slots
none_run fleet heard x now old mid slots ready made fit =
    subst (λ (p : Playing). KeepsRun fleet heard (Ok x) now now old p slots slots) (sym made.0)
    (run_goes fleet heard x now old old slots slots fit ready (λ telling its. its) (λ made its. its) (λ made. refl) ready.legal)

-- A part that goes on from the same history keeps the run too.
pub first_run : {A B F W : Type 0} (fleet : Ghosts F W) (heard : W → Option WireTold) (x : A) (y : B) (before after : F) (old mid new : Playing) (slots now : List (Option (Journaled W)))
    → mid.past ≡ old.past → KeepsRun fleet heard (Ok x) before after mid new slots now → KeepsRun fleet heard (Ok y) before after old new slots now
first_run fleet heard x y before after old mid new slots now same r = record {
  ready = r.ready;
  told = subst (λ (H : List Event). FleetTells heard [] (fleet.told before) (fleet.told after) H new.past slots now) same r.told;
  asked = tt;
  wires = r.wires;
  able = r.able;
  legal = r.legal;
}

pub first_stops : {A F W : Type 0} (fleet : Ghosts F W) (heard : W → Option WireTold) (result : Result A Halt) (before after : F) (old mid new : Playing) (slots now : List (Option (Journaled W)))
    → IsErr result → mid.past ≡ old.past → RecordsAtMost heard [] (fleet.told before) (fleet.told after) mid.past new.past slots now → SameAbility fleet before after → Legal new.past
    → KeepsRun fleet heard result before after old new slots now
first_stops fleet heard result before after old mid new slots now err same asked able legal =
    run_stops [] fleet heard result before after old new slots now err (subst (λ (H : List Event). RecordsAtMost heard [] (fleet.told before) (fleet.told after) H new.past slots now) same asked) able legal
