-- Proves that the player stays ready and makes one step in each of three acts. A call enters, a limit or the moment is
-- set, and the run ends.
use Rattle.std.proofs.Common.{◌≡◌, ◌≢◌, ◌≤◌, ◌<◌, inl, inr, ℕ, Bool, true, false, not, ◌&&◌, ◌+◌, List, ◌++◌, length, Option, Result, Ok, Err, refl, sym, ap, subst, ◌∙◌, arith}
use Rattle.std.specs.Prelude.{◌∷◌, OnErr}
use Rattle.dsql_engine_laws.specs.journal.declared.entry.Permit.{Permit}
use Rattle.dsql_engine_laws.specs.history.declared.event.Event.{Event}
use Rattle.dsql_engine_laws.specs.history.declared.event.Event.TheVariants.{Entered, Ended}
use Rattle.dsql_engine_laws.specs.history.declared.event.Control.{Control}
use Rattle.dsql_engine_laws.specs.history.declared.event.Control.TheVariants.{Tick, Set}
use Rattle.dsql_engine_laws.specs.history.Readers.Calls.{is_busy, next_call}
use Rattle.dsql_engine_laws.specs.history.Readers.Clients.{is_free}
use Rattle.dsql_engine_laws.specs.history.Readers.Controls.{told, taken, told_after}
use Rattle.dsql_engine_laws.specs.history.Readers.Course.{has_ended}
use Rattle.dsql_engine_laws.specs.history.Rules.Flights.{permitted}
use Rattle.dsql_engine_laws.specs.history.Rules.Stands.{stand}
use Rattle.dsql_engine_laws.specs.history.Legal.{Legal}
use Rattle.dsql_engine_laws.proofs.laws_work.Rows.{same_or_not}
use Rattle.dsql_engine_laws.specs.going.declared.next.Next.{Next}
use Rattle.dsql_engine_laws.specs.going.Reaching.{HasGoneOn}
use Rattle.dsql_engine_laws.proofs.laws_ends.Steps.{step_ended}
use Rattle.dsql_engine_laws.proofs.laws_ends.Whose.{free_idle}
use Rattle.dsql_engine_laws.specs.follows.Labels.{times_by, times_made}
use Rattle.dsql_engine_laws.specs.follows.Moments.{Moment}
use Rattle.dsql_laws_lines.specs.Entries.{is_entry}
use Rattle.dsql_player_wires.specs.declared.seats.KeptLine.{KeptLine}
use Rattle.dsql_player_wires.specs.Seats.{Seat, seat}
use Rattle.dsql_engine_laws.specs.laws_steps.Steps.{MakesStep}
use Rattle.dsql_engine_laws.proofs.laws_steps.Groups.{enter_is_one}
use Rattle.dsql_engine_laws.specs.laws_steps.Groups.{after_control, after_end, after_enter}
use Rattle.dsql_engine_laws.proofs.going.GoneOn.{call_whole}
use Rattle.dsql_player_wires.specs.Told.{hears_nothing}
use Rattle.dsql_engine.specs.Core.{Core}
use Rattle.dsql_player.specs.Keeping.{ActsUnheard, FailsForMemory, SameCourse, TakesUp}
use Rattle.dsql_player.specs.declared.halt.Halt.{Halt}
use Rattle.dsql_player.specs.declared.halt.Halt.TheVariants as halts
use Rattle.dsql_player.specs.Acts.{Hands, SamePermits}
use Rattle.dsql_player.specs.Carried.{HearsNothing}
use Rattle.dsql_player.specs.Naming.{MakeOnce, times}
use Rattle.dsql_player.specs.Playing.{HoldsNone, IsAt, IsAtBut, IsReady, KeepsLines, LinesFit, Playing}
use Rattle.dsql_player.specs.Stepping.{IsEnd, IsEntryOf, IsTold, TakesStep, leave_of}
use Rattle.dsql_player.proofs.Grouped.{Grouped, control_grouped, ends_grouped, enters_grouped, grows}
use Rattle.dsql_player.proofs.Ending.{has_ended_then}
use Rattle.dsql_player.proofs.Hearing.{hears_none, step_quiet}
use Rattle.dsql_player.proofs.Named.{at_hand_same, lines_fit, names_none, times_grouped, times_still}
use Rattle.dsql_player.proofs.Ready.{control_ready, end_ready, entry_ready}
use Rattle.dsql_player.proofs.Standing.{EntersLine, HasGoneFar, entry_taken}
use Rattle.dsql_player.proofs.Taking.{control_taken, end_taken}
use Rattle.dsql_player.proofs.Whose.{end_step}

-- What the clients have at hand after a call entered.

-- Holds if the client's seat has this permit, its call is held or not, and the others have what they had.
pub record SeatsCall (client : ℕ) (leave : Option Permit) (held : Bool) (seats now : List Seat) : Type 0 where
  pub its : seat now client ≡ record (seat seats client) { permit = leave; held = held }
  pub others : (other : ℕ) → other ≢ client → seat now other ≡ seat seats other
  pub room : client < length now
  pub many : length seats ≤ length now

-- Let the seat of the client be made and the permit be handed out, and let the call then be held or not. The client is
-- seated with these.
pub seats_call : (client : ℕ) (leave : Option Permit) (held : Bool) (seats made handed now : List Seat)
    → ((c : ℕ) → seat made c ≡ seat seats c) → client < length made → length seats ≤ length made
    → seat handed client ≡ record (seat made client) { permit = leave } → ((c : ℕ) → c ≢ client → seat handed c ≡ seat made c) → length handed ≡ length made
    → seat now client ≡ record (seat handed client) { held = held } → ((c : ℕ) → c ≢ client → seat now c ≡ seat handed c) → length now ≡ length handed
    → SeatsCall client leave held seats now
seats_call client leave held seats made handed now same room many hand hand_others hand_many hold hold_others hold_many = record {
  its = hold ∙ ap (λ (s : Seat). record s { held = held }) (hand ∙ ap (λ (s : Seat). record s { permit = leave }) (same client));
  others = λ other apart. hold_others other apart ∙ (hand_others other apart ∙ same other);
  room = omega (arith, room, hand_many, hold_many);
  many = omega (arith, many, hand_many, hold_many);
}

-- A call enters.

-- Holds if the call of this line entered, and the client was handed what came of it.
pub record HasEntered (client : ℕ) (line : KeptLine) (next : Next) (before after : Playing) : Type 0 where
  pub ready : IsReady before
  pub free : is_busy client before.past ≡ false
  pub names : MakeOnce (λ label. times_by label line.op) before.past before.seats
  pub past : after.past ≡ after_enter before.past client line.op
  pub went : HasGoneOn after.past before.flights after.flights (next_call before.past) next
  pub legal : Legal after.past
  pub chore : after.chore ≡ before.chore
  pub released : after.released ≡ before.released
  pub seated : SeatsCall client (leave_of next) (not before.released && line.held) before.seats after.seats

module _ (client : ℕ) (line : KeptLine) (next : Next) (before after : Playing) (h : HasEntered client line next before after) where
  abbrev number : ℕ
  number = next_call before.past

  abbrev first : Event
  first = Entered client number line.op

  entry_group : Grouped before.past after.past first number
  entry_group = subst (λ (H : List Event). Grouped before.past H first number) (sym h.past) (enters_grouped before.past client line.op)

  pub entry_longer : length before.past < length after.past
  entry_longer = grows before.past after.past first number entry_group

  pub entry_quiet : HearsNothing before.past after.past
  entry_quiet = step_quiet before.past after.past first number entry_group refl

  pub entry_ended : has_ended after.past ≡ has_ended before.past
  entry_ended = ap has_ended entry_group.grown ∙ step_ended before.past entry_group.events first number (end_step before.past after.past first number entry_group h.legal.lawful)

  pub entry_hands : Hands client next before.seats after.seats
  entry_hands = record {
    handed = ap (λ (s : Seat). s.permit) h.seated.its;
    others = λ other apart. ap (λ (s : Seat). s.permit) (h.seated.others other apart);
    room = h.seated.room;
    many = h.seated.many;
  }

  same_kept : (other : ℕ) → (seat after.seats other).kept ≡ (seat before.seats other).kept
  same_kept other = elim (same_or_not other client) [
    | inl same ↦ subst (λ (c : ℕ). (seat after.seats c).kept ≡ (seat before.seats c).kept) (sym same) (ap (λ (s : Seat). s.kept) h.seated.its)
    | inr apart ↦ ap (λ (s : Seat). s.kept) (h.seated.others other apart)
  ]

  entry_line : EntersLine client line before after
  entry_line = record {
    released = h.released;
    kept = same_kept;
    held = ap (λ (s : Seat). s.held) h.seated.its;
    others = λ other apart. ap (λ (s : Seat). s.held) (h.seated.others other apart);
  }

  -- The label that the call makes is made once more.
  pub entry_names : (label : List ℕ) → times label after.past after.seats ≡ times_by label line.op + times label before.past before.seats
  entry_names label =
      let past = times_grouped label before.past after.past first number entry_group in
      let hand = at_hand_same label before.seats after.seats same_kept in
      omega (arith, past, hand)

  -- At the script's end neither this call nor any other is held.
  entry_free : HoldsNone after
  entry_free at_end other = elim (same_or_not other client) [
    | inl same ↦
        subst (λ (c : ℕ). (seat after.seats c).held ≡ false) (sym same) (ap (λ (s : Seat). s.held) h.seated.its ∙ ap (λ b. not b && line.held) (sym h.released ∙ at_end))
    | inr apart ↦ ap (λ (s : Seat). s.held) (h.seated.others other apart) ∙ h.ready.lines.held (sym h.released ∙ at_end) other
  ]

  entry_fits : LinesFit after
  entry_fits = record { held = entry_free; named = λ label. let more = entry_names label in let once = h.names label in omega (arith, more, once) }

  pub entry_stays_ready : IsReady after
  entry_stays_ready = entry_ready before after client line.op next h.ready h.past h.went h.legal (h.chore ∙ h.ready.free) entry_hands entry_fits

  pub entry_is_step : (m : Moment) → IsAtBut m client line before → TakesStep m before after (IsEntryOf client)
  entry_is_step m at =
      let s : MakesStep m first number after.past =
      subst (λ (H : List Event). MakesStep m first number H) (sym h.past)
      (subst (λ (H : List Event). MakesStep m (Entered client (next_call H) line.op) (next_call H) (after_enter H client line.op)) at.past (enter_is_one m client line.op at.rest)) in
      let nobody : is_free before.past client ≡ true = free_idle before.past client h.ready.legal.lawful ∙ ap not h.free in
      let fly : permitted number (stand after.past number) m.flights ≡ after.flights = ap (permitted number (stand after.past number)) at.flights ∙ sym h.went.flights in
      let far : HasGoneFar after.past after.flights number = call_whole after.past number before.flights after.flights next h.legal.lawful h.went in
      entry_taken m client number line before after at s h.legal.lawful nobody fly far entry_line

-- The player, described by its parts.

-- Returns the player over this core whose clients have this at hand.
abbrev pub seen : Core → List Seat → Bool → Playing
seen core seats released = record { past = core.past; trimmed = core.trimmed; flights = core.flights; chore = core.chore; seats = seats; released = released }

-- An act that fails with `Memory` and changes no history fails for want of memory.
pub fails_at : {A : Type 0} (result : Result A Halt) (halt : Halt) (old new : List Event) → result ≡ Err halt → halt ≡ halts.Memory → new ≡ old → FailsForMemory result old new
fails_at {A} result halt old new is memory same = subst (λ (r : Result A Halt). FailsForMemory r old new) (sym is) (record { same = same; memory = memory })

-- An act that fails for want of memory hears nothing.
pub failed : {A : Type 0} (result : Result A Halt) (halt : Halt) (old new : Playing) → result ≡ Err halt → halt ≡ halts.Memory → new.past ≡ old.past → IsReady old → ActsUnheard result old new
failed {A} result halt old new is memory same ready =
    subst (λ (r : Result A Halt). ActsUnheard r old new) (sym is)
    (record { ready = tt; unheard = hears_none old.past new.past same; fails = record { same = same; memory = memory }; legal = subst Legal (sym same) ready.legal })

-- If the player's parts say that a call entered, the call entered.
pub enters_by : (client : ℕ) (line : KeptLine) (next : Next) (before after : Core) (seats now : List Seat) (released : Bool) (old : Playing)
    → seen before seats released ≡ old → IsReady old → is_busy client old.past ≡ false → MakeOnce (λ label. times_by label line.op) old.past old.seats
    → after.past ≡ after_enter before.past client line.op → HasGoneOn after.past before.flights after.flights (next_call before.past) next → after.chore ≡ before.chore → Legal after.past
    → SeatsCall client (leave_of next) (not released && line.held) seats now → HasEntered client line next old (seen after now released)
enters_by client line next before after seats now released old is ready free names group went chore legal seated =
    subst (λ (p : Playing). HasEntered client line next p (seen after now released)) is
    (record {
      ready = subst IsReady (sym is) ready;
      free = subst (λ (p : Playing). is_busy client p.past ≡ false) (sym is) free;
      names = subst (λ (p : Playing). MakeOnce (λ label. times_by label line.op) p.past p.seats) (sym is) names;
      past = group;
      went = went;
      legal = legal;
      chore = chore;
      released = refl;
      seated = seated;
    })

pub entry_course : (client : ℕ) (line : KeptLine) (next : Next) (old new : Playing) → HasEntered client line next old new → TakesUp (λ label. times_by label line.op) old new
entry_course client line next old new h = record { ended = entry_ended client line next old new h; released = h.released; named = entry_names client line next old new h }

pub entry_acts : (client : ℕ) (line : KeptLine) (next : Next) (old new : Playing) → HasEntered client line next old new → ActsUnheard {A = Unit {0}} (Ok tt) old new
entry_acts client line next old new h = record {
  ready = entry_stays_ready client line next old new h;
  unheard = entry_quiet client line next old new h;
  fails = record { same = tt; memory = tt };
  legal = h.legal;
}

-- If the clients' seats don't change, nothing that they have at hand changes.

permits_stay : (seats now : List Seat) → now ≡ seats → SamePermits seats now
permits_stay seats now same = subst (SamePermits seats) (sym same) (record { permit = λ client. refl; many = omega arith })

lines_stay : (before after : Playing) → after.seats ≡ before.seats → after.released ≡ before.released → KeepsLines before after
lines_stay before after same released = record {
  released = released;
  kept = λ client. ap (λ (seats : List Seat). (seat seats client).kept) same;
  held = λ client. ap (λ (seats : List Seat). (seat seats client).held) same;
}

module _ (before after : Core) (seats : List Seat) (released : Bool) (old : Playing) (is : seen before seats released ≡ old) where
  as_before : KeepsLines old (seen after seats released)
  as_before = lines_stay old (seen after seats released) (ap (λ (p : Playing). p.seats) is) (ap (λ (p : Playing). p.released) is)

  pub same_leave : SamePermits old.seats seats
  same_leave = permits_stay old.seats seats (ap (λ (p : Playing). p.seats) is)

-- A limit or the present moment is set.

enters_none : (control : Control) → is_entry (told control) ≡ false
enters_none (Tick now) = refl
enters_none (Set setting k) = refl

answers_nothing : (control : Control) → hears_nothing (told control) ≡ true
answers_nothing (Tick now) = refl
answers_nothing (Set setting k) = refl

ends_nothing : (past : List Event) (control : Control) → has_ended (told control ∷ past) ≡ has_ended past
ends_nothing past (Tick now) = refl
ends_nothing past (Set setting k) = refl

module _ (control : Control) (before after : Core) (seats : List Seat) (released : Bool) (old : Playing) (is : seen before seats released ≡ old) (ready : IsReady old) (group : after.past ≡ after_control before.past control) (flights : after.flights ≡ before.flights) (chore : after.chore ≡ before.chore) (legal : Legal after.past) where
  abbrev told_first : Event
  told_first = told_after old.past control

  control_group : Grouped old.past after.past told_first 0
  control_group = subst (λ (H : List Event). Grouped old.past H told_first 0) (sym (group ∙ ap (λ (p : Playing). after_control p.past control) is)) (control_grouped old.past control)

  pub control_step : (m : Moment) → IsAt m old → TakesStep m old (seen after seats released) (IsTold old.past control)
  control_step m at =
      control_taken m old (seen after seats released) control at (group ∙ ap (λ (p : Playing). after_control p.past control) is) (flights ∙ ap (λ (p : Playing). p.flights) is) legal.lawful
      (as_before before after seats released old is)

  control_unnamed : (label : List ℕ) → times_made label after.past ≡ times_made label old.past
  control_unnamed = names_none old.past after.past told_first 0 control_group (enters_none (taken old.past control))

  pub control_course : SameCourse old (seen after seats released)
  control_course = record {
    ended = ap has_ended control_group.grown ∙ (step_ended old.past control_group.events told_first 0 (end_step old.past after.past told_first 0 control_group legal.lawful) ∙ ends_nothing old.past (taken old.past control));
    released = ap (λ (p : Playing). p.released) is;
    named = times_still old (seen after seats released) (as_before before after seats released old is) control_unnamed;
  }

  pub control_acts : ActsUnheard {A = Unit {0}} (Ok tt) old (seen after seats released)
  control_acts = record {
    ready = control_ready old (seen after seats released) control ready (group ∙ ap (λ (p : Playing). after_control p.past control) is) (flights ∙ ap (λ (p : Playing). p.flights) is) legal
        (chore ∙ (ap (λ (p : Playing). p.chore) is ∙ ready.free)) (same_leave before after seats released old is)
        (lines_fit old (seen after seats released) (as_before before after seats released old is) control_unnamed ready.lines);
    unheard = step_quiet old.past after.past told_first 0 control_group (answers_nothing (taken old.past control));
    fails = record { same = tt; memory = tt };
    legal = legal;
  }

-- The run ends.

module _ (before after : Core) (seats : List Seat) (released : Bool) (old : Playing) (is : seen before seats released ≡ old) (ready : IsReady old) (group : after.past ≡ after_end before.past) (flights : after.flights ≡ before.flights) (chore : after.chore ≡ before.chore) (legal : Legal after.past) where
  end_group : Grouped old.past after.past Ended 0
  end_group = subst (λ (H : List Event). Grouped old.past H Ended 0) (sym (group ∙ ap (λ (p : Playing). after_end p.past) is)) (ends_grouped old.past)

  pub end_is_step : (m : Moment) → IsAt m old → TakesStep m old (seen after seats released) IsEnd
  end_is_step m at =
      end_taken m old (seen after seats released) at (group ∙ ap (λ (p : Playing). after_end p.past) is) (flights ∙ ap (λ (p : Playing). p.flights) is) legal.lawful (as_before before after seats released old is)

  pub end_ended : has_ended after.past ≡ true
  end_ended = has_ended_then old (seen after seats released) (group ∙ ap (λ (p : Playing). after_end p.past) is) legal.lawful

  pub end_acts : ActsUnheard {A = Unit {0}} (Ok tt) old (seen after seats released)
  end_acts = record {
    ready = end_ready old (seen after seats released) ready (group ∙ ap (λ (p : Playing). after_end p.past) is) (flights ∙ ap (λ (p : Playing). p.flights) is) legal
        (chore ∙ (ap (λ (p : Playing). p.chore) is ∙ ready.free)) (same_leave before after seats released old is)
        (lines_fit old (seen after seats released) (as_before before after seats released old is) (names_none old.past after.past Ended 0 end_group refl) ready.lines);
    unheard = step_quiet old.past after.past Ended 0 end_group refl;
    fails = record { same = tt; memory = tt };
    legal = legal;
  }

-- When the call that enters is held.

pub held_where : (released held holds : Bool) → released ≡ false → holds ≡ held → holds ≡ (not released && held)
held_where true held holds run is = absurd cc
held_where false held holds run is = is

pub held_nowhere : (released held holds : Bool) → released ≡ true → holds ≡ false → holds ≡ (not released && held)
held_nowhere true held holds over is = is
held_nowhere false held holds over is = absurd cc

-- A step from the player is also a step from any player with the same history.
pub same_step : (m : Moment) (before other after : Playing) (kind : Event → ℕ → Type 0) → other.past ≡ before.past → TakesStep m before after kind → TakesStep m other after kind
same_step m before other after kind same t = record {
  first = t.first;
  call = t.call;
  events = t.events;
  kind_is = t.kind_is;
  step = t.step;
  grows = t.grows ∙ ap (λ (H : List Event). t.events ++ H) (sym same);
  may = t.may;
  at = t.at;
}

-- What holds of an act from one player also holds from any player with the same history.

pub course_since : (line : KeptLine) (mid old new : Playing) → mid.past ≡ old.past → mid.released ≡ old.released
    → ((label : List ℕ) → times_by label line.op + times label mid.past mid.seats ≡ times label old.past old.seats)
    → TakesUp (λ label. times_by label line.op) mid new → SameCourse old new
course_since line mid old new past released names c = record { ended = c.ended ∙ ap has_ended past; released = c.released ∙ released; named = λ label. let more = c.named label in let less = names label in omega (arith, more, less) }

pub acts_since : {A : Type 0} (result : Result A Halt) (mid old new : Playing) → mid.past ≡ old.past → ActsUnheard result mid new → ActsUnheard result old new
acts_since {A} result mid old new past a = record {
  ready = a.ready;
  unheard = subst (λ (H : List Event). HearsNothing H new.past) past a.unheard;
  fails = record { same = subst (λ (H : List Event). OnErr result (new.past ≡ H)) past a.fails.same; memory = a.fails.memory };
  legal = a.legal;
}

-- If an act hears nothing, it hears nothing with another result too.
pub acts_answer : {A B : Type 0} (x : A) (y : B) (old new : Playing) → ActsUnheard (Ok x) old new → ActsUnheard (Ok y) old new
acts_answer x y old new a = record { ready = a.ready; unheard = a.unheard; fails = record { same = tt; memory = tt }; legal = a.legal }
