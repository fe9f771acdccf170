-- One of the layer's own calls is answered. The argument shows that the call may be made, that the core may
-- take in its answer, and that this is one step.
use Rattle.std.proofs.Common.{◌≡◌, ℕ, ◌+◌, ◌<◌, ◌≤◌, ◌==◌, Bool, true, false, not, cond, List, [], ◌∷◌, length, Option, Some, refl, sym, ap, subst, ◌∙◌, arith, length-append}
use Rattle.dsql_engine_laws.specs.driver.declared.answer.DriverAnswer.TheVariants.{Done}
use Rattle.dsql_engine_laws.specs.journal.declared.entry.Entry.{Entry}
use Rattle.dsql_engine_laws.specs.journal.declared.entry.Permit.{Permit}
use Rattle.dsql_engine_laws.specs.journal.HandlesAndCursors.{fits_at_its_place}
use Rattle.dsql_engine_laws.specs.journal.Permits.{entry_of}
use Rattle.dsql_engine_laws.specs.history.declared.event.Event.{Event}
use Rattle.dsql_engine_laws.specs.history.declared.event.Event.TheVariants.{Heard}
use Rattle.dsql_engine_laws.specs.history.declared.record.Flight.{Flight}
use Rattle.dsql_engine_laws.specs.history.Legal.{Lawful, Legal}
use Rattle.dsql_engine_laws.specs.history.Readers.Course.{has_ended}
use Rattle.dsql_engine_laws.specs.history.Readers.Journals.{journal}
use Rattle.dsql_engine_laws.specs.history.Rules.Flights.{is_in_flight, permitted, without_flight}
use Rattle.dsql_engine_laws.specs.history.Rules.House.{chore_due}
use Rattle.dsql_engine_laws.specs.history.Rules.Stands.{stand}
use Rattle.dsql_engine_laws.specs.going.declared.next.Next.{Next}
use Rattle.dsql_engine_laws.specs.going.Permits.{chore_permit}
use Rattle.dsql_engine_laws.specs.going.Stepping.{GoesOnOrRests, Rests}
use Rattle.dsql_engine_laws.specs.hearing.Hearing.{IsWelcome}
use Rattle.dsql_engine_laws.proofs.laws.Places.{neither}
use Rattle.dsql_engine_laws.proofs.laws.Tests.{other_number, same_itself}
use Rattle.dsql_engine_laws.specs.Chores.{MayBeMade}
use Rattle.dsql_engine_laws.proofs.Made.{chore_made}
use Rattle.dsql_engine_laws.proofs.Placed.{meets_no_other}
use Rattle.dsql_engine.specs.Core.{Core}
use Rattle.dsql_engine.specs.Hearing.{MayBeHeard, is_on, is_under_way}
use Rattle.dsql_engine_laws.proofs.laws_ends.Steps.{step_ended}
use Rattle.dsql_engine_laws.specs.follows.Labels.{times_made}
use Rattle.dsql_engine_laws.specs.follows.Moments.{Moment, landed}
use Rattle.dsql_player_wires.specs.Seats.{Seat, seat}
use Rattle.dsql_player_wires.specs.Stopped.{MayCome, Untaken, WantedMemory}
use Rattle.dsql_engine_laws.specs.laws_steps.Steps.{MakesStep, RestsAlone}
use Rattle.dsql_engine_laws.proofs.laws_steps.Groups.{heard_is_one}
use Rattle.dsql_engine_laws.specs.laws_steps.Groups.{after_heard}
use Rattle.dsql_engine_laws.specs.tenure.Judged.{answered}
use Rattle.dsql_engine_laws.specs.Leaves.{IsLeave}
use Rattle.dsql_engine_laws.specs.Turns.{Flying}
use Rattle.dsql_engine_laws.proofs.Leave.{leave_kept}
use Rattle.dsql_engine_laws.proofs.Steps.{layer_flies}
use Rattle.dsql_engine_laws.proofs.going.GoneOn.{layer_whole}
use Rattle.dsql_player.specs.Chores.{IsAnswered, IsToMake}
use Rattle.dsql_player.specs.Naming.{times}
use Rattle.dsql_player.specs.Playing.{Playing, IsAt, IsReady, KeepsLines}
use Rattle.dsql_player.specs.Stepping.{IsChoreOn, TakesStep}
use Rattle.dsql_player.proofs.Allowed.{allowed_welcome}
use Rattle.dsql_player.proofs.Answering.{entry_conn, entry_number}
use Rattle.dsql_player.proofs.Grouped.{Grouped, hears_alone, hears_grouped}
use Rattle.dsql_player.proofs.Named.{lines_fit, names_none, times_still}
use Rattle.dsql_player.proofs.Ready.{nobody_ready}
use Rattle.dsql_player.proofs.Seating.{Goes, SameButFor, nobody_flies, same_flights}
use Rattle.dsql_player.proofs.Standing.{HasGoneFar, has_lines, step_taken}
use Rattle.dsql_player.proofs.Taking.{nobody_sends}
use Rattle.dsql_player.proofs.Whose.{end_step}
use Rattle.dsql_player.specs.Acts.{SamePermits, TakesAnswer}

-- What the call says of its answer.

-- Holds if the layer's own call of this permit is due, and this is its answer, which fits at its place.
pub record AnswersOwn (past : List Event) (permit : Permit) (e : Entry) : Type 0 where
  pub legal : Legal past
  pub leave : chore_permit past permit.conn ≡ Some permit
  pub answer : e ≡ answered permit e.answer
  pub fits : fits_at_its_place (journal past e.conn) e ≡ true

module _ (past : List Event) (permit : Permit) (e : Entry) (it : AnswersOwn past permit e) where
  made : MayBeMade past permit.conn permit
  made = chore_made past permit.conn permit it.legal.lawful it.legal.settled.nothing_owed it.leave

  own_conn : e.conn ≡ permit.conn
  own_conn = entry_conn permit e it.answer

  -- The answer is of no client's call.
  pub own_layer : e.call_no ≡ 0
  own_layer = entry_number permit e it.answer ∙ made.layer

  own_fits : fits_at_its_place (journal past permit.conn) (answered permit e.answer) ≡ true
  own_fits = subst (λ (x : Entry). fits_at_its_place (journal past permit.conn) x ≡ true) it.answer (subst (λ (c : ℕ). fits_at_its_place (journal past c) e ≡ true) own_conn it.fits)

  own_welcome : IsWelcome past e
  own_welcome = subst (λ (x : Entry). IsWelcome past x) (sym it.answer) (made.welcome e.answer own_fits)

  -- The core may take in the answer if it has recorded the call as under way.
  pub own_heard : (core : Core) → core.past ≡ past → core.chore ≡ Some permit.conn → MayBeHeard core e
  own_heard core same chore = record { flight = flight; welcome = subst (λ (H : List Event). IsWelcome H e) (sym same) own_welcome }
    where
      under_way : is_on e.conn core.chore ≡ true
      under_way = ap (λ (chore : Option ℕ). is_on e.conn chore) chore ∙ (ap (λ (c : ℕ). permit.conn == c) own_conn ∙ same_itself permit.conn)

      flight : is_under_way core e.call_no e.conn ≡ true
      flight = ap (λ (n : ℕ). is_under_way core n e.conn) own_layer ∙ under_way

-- The layer's own call that is under way may be made.
pub made_so : (p : Playing) (permit : Permit) → IsToMake p permit → MayBeMade p.past permit.conn permit
made_so p permit it = chore_made p.past permit.conn permit it.ready.legal.lawful it.ready.legal.settled.nothing_owed it.leave

pub answers_own : (p : Playing) (e : Entry) → (it : IsAnswered p e) → AnswersOwn p.past it.permit e
answers_own p e it = record { legal = it.to_make.ready.legal; leave = it.to_make.leave; answer = it.answer; fits = it.fits }

-- The core may take in the answer.
pub answer_welcome : (p : Playing) (e : Entry) (core : Core) → core.past ≡ p.past → core.chore ≡ p.chore → IsAnswered p e → MayBeHeard core e
answer_welcome p e core past chore it = own_heard p.past it.permit e (answers_own p e it) core past (chore ∙ it.to_make.under_way)

-- The layer's own call is due: whatever its answer is, it may come next by every rule.
pub chore_may_want : (p : Playing) (permit : Permit) → IsToMake p permit → MayCome p.past (WantedMemory permit)
chore_may_want p permit it = (it.room, λ answer fits. allowed_welcome p.past (answered permit answer) it.ready.legal ((made_so p permit it).welcome answer fits))

-- The answer may come next by every rule, whether or not it is taken in.
pub answer_may_come : (p : Playing) (e : Entry) → IsAnswered p e → MayCome p.past (Untaken e)
answer_may_come p e it = (it.to_make.room, allowed_welcome p.past e it.to_make.ready.legal (own_welcome p.past it.permit e (answers_own p e it)))

pub without_none : (n : ℕ) (flights : List Flight) → is_in_flight n flights ≡ false → without_flight n flights ≡ flights
without_none n [] h = refl
without_none n (x ∷ xs) h = let a = neither (x.call == n) (is_in_flight n xs) h in by (x.call == n) a.0 (without_none n xs a.1)
  where
    by : (b : Bool) → b ≡ false → without_flight n xs ≡ xs → cond (not b) (x ∷ without_flight n xs) (without_flight n xs) ≡ x ∷ xs
    by true h rest = absurd cc
    by false h rest = ap (λ (flights : List Flight). x ∷ flights) rest

pub rests_so : (now : List Event) (before after : List Flight) (n : ℕ) (next : Next) → n ≡ 0 → GoesOnOrRests now before after n next → after ≡ before
rests_so now before after n next none h =
    let rests : Rests before after next = subst (λ (k : ℕ). GoesOnOrRests now before after k next) none h in
    rests.same

-- The step that the answer makes.

module _ (permit : Permit) (e : Entry) (before after : Playing) (ready : IsReady before) (leave : chore_permit before.past permit.conn ≡ Some permit) (took : TakesAnswer permit e before after) where
  on_it : e.conn ≡ permit.conn
  on_it = entry_conn permit e took.heard

  pub chore_group : Grouped before.past after.past (Heard e) 0
  chore_group = subst (λ (H : List Event). Grouped before.past H (Heard e) 0) (sym took.past) (subst (λ (n : ℕ). Grouped before.past (after_heard before.past e) (Heard e) n) took.layer (hears_grouped before.past e (subst (λ (H : List Event). Lawful H) took.past took.legal.lawful)))

  chore_flying : Flying after.past after.flights
  chore_flying =
      subst (λ (flights : List Flight). Flying after.past flights) (sym took.flights)
      (subst (λ (H : List Event). Flying H before.flights) (sym took.past) (layer_flies before.past e before.flights (subst (λ (H : List Event). Lawful H) took.past took.legal.lawful) ready.flying took.layer))

  -- The step touches no call of a client.
  chore_goes : Goes 0 before.past after.past before.flights after.flights
  chore_goes = record {
    lawful = took.legal.lawful;
    flying = chore_flying;
    same = subst (λ (flights : List Flight). SameButFor 0 before.flights flights) (sym took.flights) (same_flights 0 before.flights);
    stays = λ mine its there other.
        subst (λ (H : List Event). IsLeave H mine) (sym chore_group.grown)
        (leave_kept before.past chore_group.events chore_group.group.more (Heard e) 0 mine (subst (λ (H : List Event). Lawful H) chore_group.grown took.legal.lawful) its chore_group.group.whole chore_group.group.later
        (λ is. other (sym is))
        (other_number e.conn mine.conn (λ same. meets_no_other before.past permit.conn permit (entry_of mine Done) ready.legal.lawful leave its.of_a_call (its.comes Done) (sym same ∙ on_it))));
  }

  same_permits : SamePermits before.seats after.seats
  same_permits = record {
    permit = λ client. ap (λ (seats : List Seat). (seat seats client).permit) took.seats;
    many = subst (λ (seats : List Seat). length before.seats ≤ length seats) (sym took.seats) (omega arith);
  }

  keeps_lines : KeepsLines before after
  keeps_lines = record {
    released = took.released;
    kept = λ client. ap (λ (seats : List Seat). (seat seats client).kept) took.seats;
    held = λ client. ap (λ (seats : List Seat). (seat seats client).held) took.seats;
  }

  chore_unnamed : (label : List ℕ) → times_made label after.past ≡ times_made label before.past
  chore_unnamed = names_none before.past after.past (Heard e) 0 chore_group refl

  pub chore_names : (label : List ℕ) → times label after.past after.seats ≡ 0 + times label before.past before.seats
  chore_names = times_still before after keeps_lines chore_unnamed

  pub chore_ready : IsReady after
  chore_ready =
      nobody_ready (Heard e) before after ready chore_group refl took.legal took.chore chore_goes same_permits (lines_fit before after keeps_lines chore_unnamed ready.lines)

  pub chore_longer : length before.past < length after.past
  chore_longer =
      let g = chore_group in
      let whole : length after.past ≡ length g.events + length before.past = ap length g.grown ∙ length-append g.events before.past in
      let first : length g.events ≡ length g.group.more + 1 = ap length g.group.whole ∙ length-append g.group.more (Heard e ∷ []) in
      omega (arith, whole, first)

  pub chore_ended : has_ended after.past ≡ has_ended before.past
  chore_ended = ap has_ended chore_group.grown ∙ step_ended before.past chore_group.events (Heard e) 0 (end_step before.past after.past (Heard e) 0 chore_group took.legal.lawful)

  pub chore_steps : (conn : Option ℕ) → conn ≡ Some e.conn → (m : Moment) → IsAt m before → TakesStep m before after (IsChoreOn conn)
  chore_steps conn on m at =
      let n : ℕ = e.call_no in
      let s : MakesStep m (Heard e) n after.past = subst (λ (H : List Event). MakesStep m (Heard e) n H) (ap (λ (H : List Event). after_heard H e) at.past ∙ sym took.past) (heard_is_one m e at.rest (subst (λ (H : List Event). RestsAlone H e) (sym at.past) (hears_alone before.past e (subst (λ (H : List Event). Lawful H) took.past took.legal.lawful)))) in
      let none : is_in_flight 0 m.flights ≡ false = ap (λ (flights : List Flight). is_in_flight 0 flights) at.flights ∙ nobody_flies before.past before.flights ready.legal.lawful ready.flying in
      let fly : permitted n (stand after.past n) (landed (Heard e) m.flights) ≡ after.flights =
      ap (λ (k : ℕ). permitted k (stand after.past k) (without_flight k m.flights)) took.layer
      ∙ (nobody_sends after.past (without_flight 0 m.flights) took.legal.lawful ∙ (without_none 0 m.flights none ∙ (at.flights ∙ sym took.flights))) in
      let far : HasGoneFar after.past after.flights n = subst (λ (k : ℕ). HasGoneFar after.past after.flights k) (sym took.layer) (layer_whole after.past after.flights took.legal.lawful) in
      step_taken m (Heard e) n before after (IsChoreOn conn) (has_lines m before at) s refl fly far keeps_lines
      (record { entry = e; heard = refl; of_the_layer = took.layer; of_nobody = took.layer; on = on })

  pub chore_taken : chore_due before.past ≡ Some permit.conn → (m : Moment) → IsAt m before → TakesStep m before after (IsChoreOn (chore_due before.past))
  chore_taken due = chore_steps (chore_due before.past) (due ∙ ap Some (sym on_it))
