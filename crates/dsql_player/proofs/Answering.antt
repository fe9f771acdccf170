-- A client's call makes the driver call for which it has a permit, and goes on with the answer. The argument
-- shows that the wire takes the driver call and the core takes its answer.
use Rattle.std.proofs.Common.{◌≡◌, ◌<◌, ℕ, ◌==◌, Bool, true, false, cond, List, length, Option, Some, None, refl, ap, sym, subst, ◌∙◌}
use Rattle.std.specs.Prelude.{IsSomeAnd}
use Rattle.dsql_engine_laws.specs.driver.declared.answer.DriverAnswer.{DriverAnswer}
use Rattle.dsql_engine_laws.specs.driver.Fits.{is_done}
use Rattle.dsql_engine_laws.specs.driver.Kinds.{is_begin}
use Rattle.dsql_engine_laws.specs.driver.Wires.{WireTold}
use Rattle.dsql_engine_laws.specs.journal.declared.entry.Entry.{Entry}
use Rattle.dsql_engine_laws.specs.journal.declared.entry.Permit.{Permit}
use Rattle.dsql_engine_laws.specs.journal.HandlesAndCursors.{fits_at_its_place}
use Rattle.dsql_engine_laws.specs.journal.Permits.{entry_of}
use Rattle.dsql_engine_laws.specs.tenure.Judged.{answered}
use Rattle.dsql_engine_laws.specs.history.declared.event.Event.TheVariants.{Heard}
use Rattle.dsql_engine_laws.specs.history.Readers.Calls.{is_busy}
use Rattle.dsql_engine_laws.specs.history.Readers.Clients.{call_of}
use Rattle.dsql_engine_laws.specs.history.Readers.Course.{has_ended}
use Rattle.dsql_engine_laws.specs.history.Readers.Journals.{journal}
use Rattle.dsql_engine_laws.specs.history.Rules.Flights.{without_flight}
use Rattle.dsql_engine_laws.specs.history.Legal.{Lawful, Legal}
use Rattle.dsql_engine_laws.proofs.laws.Tests.{other_number}
use Rattle.dsql_engine.specs.Core.{Core}
use Rattle.dsql_engine.specs.Hearing.{MayBeHeard, is_on}
use Rattle.dsql_engine_laws.specs.going.Reaching.{HasGoneOn}
use Rattle.dsql_engine_laws.specs.going.Stepping.{GoesOnOrRests, Rests}
use Rattle.dsql_engine_laws.specs.going.declared.next.Next.{Next}
use Rattle.dsql_engine_laws.specs.hearing.Hearing.{IsWelcome}
use Rattle.dsql_engine_laws.proofs.laws_ends.Steps.{step_ended}
use Rattle.dsql_engine_laws.proofs.laws_ends.Whose.{idle_none}
use Rattle.dsql_player_wires.specs.Seats.{seat}
use Rattle.dsql_engine_laws.specs.laws_steps.Groups.{after_heard}
use Rattle.dsql_engine_laws.specs.Leaves.{IsLeave}
use Rattle.dsql_engine_laws.specs.Turns.{flies}
use Rattle.dsql_engine_laws.proofs.Leave.{leave_opens_none, leave_sends, leave_welcomes}
use Rattle.dsql_engine_laws.specs.wire.Journaled.{Journaled, MayBeSent}
use Rattle.dsql_player_wires.specs.WiresFit.{WiresFit, slot}
use Rattle.dsql_player_wires.proofs.Asking.{wire_sends}
use Rattle.dsql_player.specs.Apart.{AnswersLeave}
use Rattle.dsql_player.specs.Keeping.{SameCourse}
use Rattle.dsql_player.specs.Playing.{FitsCall, IsReady, KeepsLines, Playing}
use Rattle.dsql_player.specs.Stepping.{HearsAnswer}
use Rattle.dsql_player.proofs.Grouped.{Grouped, grows, hears_grouped}
use Rattle.dsql_player.proofs.Named.{lines_fit, names_none, times_still}
use Rattle.dsql_player.proofs.Ready.{answer_ready}
use Rattle.dsql_player.proofs.Whose.{end_step}
use Rattle.dsql_player.specs.Acts.{Hands}

-- Holds if a client that was handed this permit has it for its call, whose driver call is under way.
pub record HasLeave (p : Playing) (client : ℕ) (permit : Permit) : Type 0 where
  pub leave : IsLeave p.past permit
  pub call : permit.call_no ≡ call_of p.past client
  pub there : flies permit.call_no permit.conn p.flights ≡ true
  pub busy : is_busy client p.past ≡ true
  pub room : client < length p.seats

pub leave_at : (p : Playing) (client : ℕ) (permit : Permit) → IsReady p → (seat p.seats client).permit ≡ Some permit → HasLeave p client permit
leave_at p client permit ready has = record {
  leave = fits.0;
  call = fits.1;
  there = subst (λ n. flies n permit.conn p.flights ≡ true) (sym fits.1) fits.2;
  busy = busy;
  room = (ready.seats client).room busy;
}
  where
    fits : FitsCall p.past p.flights (call_of p.past client) (Some permit)
    fits = subst (FitsCall p.past p.flights (call_of p.past client)) has (ready.seats client).leave

    busy : is_busy client p.past ≡ true
    busy = by (is_busy client p.past) refl
      where
        by : (b : Bool) → is_busy client p.past ≡ b → is_busy client p.past ≡ true
        by true is = is
        by false is = absurd (fits.0.of_a_call (fits.1 ∙ idle_none p.past client is))

-- The entry that an answer makes of a permit is of the permit's call and on its connection.

answered_conn : (p : Permit) (a : DriverAnswer) → (answered p a).conn ≡ p.conn
answered_conn p a = by (is_begin p.call) (is_done a)
  where
    by : (b d : Bool) → (cond b (cond d (entry_of p a) (record (entry_of p a) { tx = 0 })) (entry_of p a)).conn ≡ p.conn
    by true true = refl
    by true false = refl
    by false d = refl

answered_number : (p : Permit) (a : DriverAnswer) → (answered p a).call_no ≡ p.call_no
answered_number p a = by (is_begin p.call) (is_done a)
  where
    by : (b d : Bool) → (cond b (cond d (entry_of p a) (record (entry_of p a) { tx = 0 })) (entry_of p a)).call_no ≡ p.call_no
    by true true = refl
    by true false = refl
    by false d = refl

pub entry_conn : (p : Permit) (e : Entry) → e ≡ answered p e.answer → e.conn ≡ p.conn
entry_conn p e is = ap (λ (x : Entry). x.conn) is ∙ answered_conn p e.answer

pub entry_number : (p : Permit) (e : Entry) → e ≡ answered p e.answer → e.call_no ≡ p.call_no
entry_number p e is = ap (λ (x : Entry). x.call_no) is ∙ answered_number p e.answer

-- The wire takes the driver call, and the core takes its answer.

pub wire_takes : {W : Type 0} (heard : W → Option WireTold) (p : Playing) (client : ℕ) (permit : Permit) (wires : List (Option (Journaled W))) → Lawful p.past → HasLeave p client permit → WiresFit heard false p.past wires
    → IsSomeAnd (slot wires permit.conn) (λ w. MayBeSent w.conn w.journal permit)
wire_takes heard p client permit wires l has fit = wire_sends heard false p.past permit wires fit (leave_sends p.past permit l has.leave) (leave_opens_none p.past permit l has.leave)

pub may_be_heard : (core : Core) (permit : Permit) (e : Entry) → Lawful core.past → IsLeave core.past permit → flies permit.call_no permit.conn core.flights ≡ true → e ≡ answered permit e.answer
    → fits_at_its_place (journal core.past e.conn) e ≡ true → MayBeHeard core e
may_be_heard core permit e l leave there is fits = record { flight = under_way; welcome = subst (IsWelcome core.past) (sym is) (leave_welcomes core.past permit e.answer l leave fitting) }
  where
    number : e.call_no ≡ permit.call_no
    number = entry_number permit e is

    conn : e.conn ≡ permit.conn
    conn = entry_conn permit e is

    fitting : fits_at_its_place (journal core.past permit.conn) (answered permit e.answer) ≡ true
    fitting = subst (λ x. fits_at_its_place (journal core.past permit.conn) x ≡ true) is (subst (λ c. fits_at_its_place (journal core.past c) e ≡ true) conn fits)

    flown : flies e.call_no e.conn core.flights ≡ true
    flown = subst (λ n. flies n e.conn core.flights ≡ true) (sym number) (subst (λ c. flies permit.call_no c core.flights ≡ true) (sym conn) there)

    under_way : cond (e.call_no == 0) (is_on e.conn core.chore) (flies e.call_no e.conn core.flights) ≡ true
    under_way = ap (λ b. cond b (is_on e.conn core.chore) (flies e.call_no e.conn core.flights)) (other_number e.call_no 0 (λ none. leave.of_a_call (sym number ∙ none))) ∙ flown

-- The core may take in the answer to a driver call for which the client has leave.
pub leave_heard : (core : Core) (p : Playing) (client : ℕ) (e : Entry) → core.past ≡ p.past → core.flights ≡ p.flights → IsReady p → AnswersLeave p client e → MayBeHeard core e
leave_heard core p client e past flights ready it =
    let has : HasLeave p client it.permit = leave_at p client it.permit ready it.leave in
    may_be_heard core it.permit e (subst Lawful (sym past) ready.legal.lawful) (subst (λ H. IsLeave H it.permit) (sym past) has.leave)
    (subst (λ fs. flies it.permit.call_no it.permit.conn fs ≡ true) (sym flights) has.there) it.answer
    (subst (λ H. fits_at_its_place (journal H e.conn) e ≡ true) (sym past) (subst (λ c. fits_at_its_place (journal p.past c) e ≡ true) (sym (entry_conn it.permit e it.answer)) it.fits))

-- What follows from the answer.

pub record Answered (permit : Permit) (e : Entry) (next : Next) (client : ℕ) (before after : Playing) : Type 0 where
  pub has : HasLeave before client permit
  pub ready : IsReady before
  pub entry : e ≡ answered permit e.answer
  pub past : after.past ≡ after_heard before.past e
  pub went : GoesOnOrRests after.past (without_flight e.call_no before.flights) after.flights e.call_no next
  pub chore : after.chore ≡ cond (e.call_no == 0) None before.chore
  pub legal : Legal after.past
  pub hands : Hands client next before.seats after.seats
  pub lines : KeepsLines before after

module _ (permit : Permit) (e : Entry) (next : Next) (client : ℕ) (before after : Playing) (a : Answered permit e next client before after) where
  pub its_number : e.call_no ≡ call_of before.past client
  its_number = entry_number permit e a.entry ∙ a.has.call

  of_a_call : (e.call_no == 0) ≡ false
  of_a_call = other_number e.call_no 0 (λ none. a.has.leave.of_a_call (sym (entry_number permit e a.entry) ∙ none))

  gone : HasGoneOn after.past (without_flight e.call_no before.flights) after.flights e.call_no next
  gone =
      subst (λ b. cond {A = Type 0} b (Rests (without_flight e.call_no before.flights) after.flights next) (HasGoneOn after.past (without_flight e.call_no before.flights) after.flights e.call_no next))
      of_a_call a.went

  pub answered_grouped : Grouped before.past after.past (Heard e) e.call_no
  answered_grouped = subst (λ H. Grouped before.past H (Heard e) e.call_no) (sym a.past) (hears_grouped before.past e (subst (λ H. Lawful H) a.past a.legal.lawful))

  pub answered_ready : IsReady after
  answered_ready =
      answer_ready before after client e next a.ready a.has.busy its_number
      (subst (λ n. flies n e.conn before.flights ≡ true) (sym (entry_number permit e a.entry)) (subst (λ c. flies permit.call_no c before.flights ≡ true) (sym (entry_conn permit e a.entry)) a.has.there))
      a.past gone a.legal (a.chore ∙ (ap (λ b. cond b None before.chore) of_a_call ∙ a.ready.free)) a.hands
      (lines_fit before after a.lines (names_none before.past after.past (Heard e) e.call_no answered_grouped refl) a.ready.lines)

  pub answered_hears : HearsAnswer (call_of before.past client) before after
  answered_hears = record {
    entry = e;
    next = next;
    number = its_number;
    heard = a.past;
    went = subst (λ n. HasGoneOn after.past (without_flight n before.flights) after.flights n next) its_number gone;
    lines = a.lines;
  }

  pub answered_grows : length before.past < length after.past
  answered_grows = grows before.past after.past (Heard e) e.call_no answered_grouped

  answered_ended : has_ended after.past ≡ has_ended before.past
  answered_ended = ap has_ended answered_grouped.grown ∙ step_ended before.past answered_grouped.events (Heard e) e.call_no (end_step before.past after.past (Heard e) e.call_no answered_grouped a.legal.lawful)

  pub answered_course : SameCourse before after
  answered_course = record {
    ended = answered_ended;
    released = a.lines.released;
    named = times_still before after a.lines (names_none before.past after.past (Heard e) e.call_no answered_grouped refl);
  }
