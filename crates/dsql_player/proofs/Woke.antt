-- A client's call goes on by itself. The argument compares the history before with the history after: it grew,
-- or the call got a permit.
use Rattle.std.proofs.Common.{◌≡◌, ◌<◌, ◌+◌, ◌-◌, length-drop, ◌⊎◌, inl, inr, ℕ, Bool, true, false, not, ◌&&◌, ◌||◌, cond, List, ◌∷◌, length, Option, Some, None, is_some, refl, ap, sym, subst, ◌∙◌, arith}
use Rattle.std.specs.Prelude.{nat_lt, option_map, reverse}
use Rattle.std.proofs.lemmas.Bool.Decides.{nat_tests}
use Rattle.std.proofs.lemmas.List.{length-reverse}
use Rattle.dsql_engine_laws.specs.journal.declared.entry.Permit.{Permit}
use Rattle.dsql_engine_laws.specs.history.declared.event.Event.{Event}
use Rattle.dsql_engine_laws.specs.history.declared.event.Event.TheVariants.{Ended}
use Rattle.dsql_engine_laws.specs.history.declared.record.Flight.{Flight}
use Rattle.dsql_engine_laws.specs.history.declared.record.Stand.{Stand}
use Rattle.dsql_engine_laws.specs.history.declared.record.Stand.TheVariants.{Waits, Opens, Sends}
use Rattle.dsql_engine_laws.specs.history.Readers.Calls.{is_busy}
use Rattle.dsql_engine_laws.specs.history.Readers.Clients.{call_of}
use Rattle.dsql_engine_laws.specs.history.Readers.Course.{has_ended}
use Rattle.dsql_engine_laws.specs.history.Readers.Unfinished.{is_unfinished}
use Rattle.dsql_engine_laws.specs.history.Rules.Flights.{is_blocked, is_in_flight}
use Rattle.dsql_engine_laws.specs.laws_ends.Over.{may_move}
use Rattle.dsql_engine_laws.specs.history.Rules.Stands.{stand}
use Rattle.dsql_engine_laws.specs.history.Legal.{Legal}
use Rattle.dsql_engine_laws.specs.history.Trimmed.{IsLeftOf}
use Rattle.dsql_engine_laws.specs.going.Answers.{next_for, sends_unless, why_blocked}
use Rattle.dsql_engine_laws.specs.going.Permits.{permit_for}
use Rattle.dsql_engine_laws.specs.going.Reaching.{HasGoneOn}
use Rattle.dsql_engine_laws.specs.going.declared.next.Next.{Next}
use Rattle.dsql_engine_laws.specs.going.declared.next.Next.TheVariants.{Reply, Send}
use Rattle.dsql_engine_laws.specs.going.declared.next.Why.TheVariants.{Turn}
use Rattle.dsql_engine_laws.proofs.laws_ends.Steps.{step_ended}
use Rattle.dsql_engine_laws.proofs.laws_ends.Whose.{busy_unfinished}
use Rattle.dsql_engine_laws.specs.follows.Labels.{times_made}
use Rattle.dsql_engine_laws.specs.follows.Moments.{Moment}
use Rattle.dsql_player_wires.specs.Seats.{Seat, seat}
use Rattle.dsql_engine_laws.specs.laws_steps.Steps.{goes_by_itself}
use Rattle.dsql_engine_laws.specs.laws_steps.Groups.{gone_on}
use Rattle.dsql_player.specs.Keeping.{SameCourse}
use Rattle.dsql_player.specs.Acts.{Hands, Woken}
use Rattle.dsql_player.specs.Carried.{HearsNothing}
use Rattle.dsql_player.specs.Playing.{IsAt, IsReady, KeepsLines, Playing}
use Rattle.dsql_player.specs.Stepping.{Wakes, leave_of}
use Rattle.dsql_player.proofs.Grouped.{GoneOn, goes_grouped, grows}
use Rattle.dsql_player.proofs.Hearing.{hears_none, itself_quiet, step_quiet}
use Rattle.dsql_player.proofs.Named.{lines_fit, names_none, times_still}
use Rattle.dsql_player.proofs.Ready.{wake_ready}
use Rattle.dsql_player.proofs.Taking.{wakes}
use Rattle.dsql_player.proofs.Whose.{begins_itself, begins_no_entry, busy_call, end_step}
use Rattle.dsql_player.proofs.Asked.{Given, given_hands, given_lines}

-- A call that may move and whose history stays the same gets a permit.

unblocked : (b : Bool) → (true && (false || not b)) ≡ true → b ≡ false
unblocked true h = absurd cc
unblocked false h = refl

no_reason : (flights : List Flight) (n : ℕ) (at : Option Stand) → is_blocked flights n at ≡ false → why_blocked flights n at ≡ None
no_reason flights n (Some Waits) h = absurd cc
no_reason flights n (Some (Opens c)) h = absurd cc
no_reason flights n (Some (Sends c)) h = ap (λ b. cond b (Some (Turn c)) None) h
no_reason flights n _ h = refl

sent : (permit : Option Permit) (next : Next) → option_map Send permit ≡ Some next → is_some (leave_of next) ≡ true
sent None next h = absurd cc
sent (Some permit) (Send other) h = refl
sent (Some permit) next h = absurd cc

pub stays_to_send : (past : List Event) (flights : List Flight) (n : ℕ) (next : Next) → is_unfinished past n ≡ true → is_in_flight n flights ≡ false → may_move past flights n ≡ true → next_for past flights n ≡ Some next
    → is_some (leave_of next) ≡ true
stays_to_send past flights n next u parked moves answers = sent (permit_for past n) next (sym due ∙ answers)
  where
    free : is_blocked flights n (stand past n) ≡ false
    free =
        unblocked (is_blocked flights n (stand past n))
        (sym (ap (λ b. b && (is_in_flight n flights || not (is_blocked flights n (stand past n)))) u ∙ ap (λ b. true && (b || not (is_blocked flights n (stand past n)))) parked) ∙ moves)

    due : next_for past flights n ≡ option_map Send (permit_for past n)
    due = ap (λ b. cond b (sends_unless past n (why_blocked flights n (stand past n))) (Some (Reply n))) u ∙ ap (sends_unless past n) (no_reason flights n (stand past n) free)

-- What a call does by itself doesn't end the run.
itself_ends_none : (n : ℕ) (e : Event) (past : List Event) → goes_by_itself n e ≡ true → has_ended (e ∷ past) ≡ has_ended past
itself_ends_none n Ended past h = absurd cc
itself_ends_none n e past h = refl

-- The kept events and the trimmed ones together are as many as the history has.

left : (kept : List Event) (trimmed : ℕ) (past : List Event) → IsLeftOf past trimmed kept → length kept + trimmed ≡ length past
left kept trimmed past s =
    let a : length kept ≡ length (reverse past) - trimmed = ap length s.rest ∙ length-drop trimmed (reverse past) in
    let b : length (reverse past) ≡ length past = length-reverse past in
    let within = s.within in
    omega (arith, a, b, within)

longer : (a b : ℕ) → nat_lt a b ≡ true → a < b
longer a b h = grind (arith, nat_tests)

no_longer : (a b : ℕ) → nat_lt a b ≡ false → a < b → ⊥
no_longer a b h less = grind (arith, nat_tests)

module _ (first second : List Event) (before after : ℕ) (old new : List Event) (old_is : IsLeftOf old before first) (new_is : IsLeftOf new after second) (same : after ≡ before) where
  pub history_longer : nat_lt (length first) (length second) ≡ true → length old < length new
  history_longer h =
      let a = left first before old old_is in
      let b = left second after new new_is in
      let less : length first < length second = longer (length first) (length second) h in
      omega (arith, a, b, less, same)

  pub history_no_longer : nat_lt (length first) (length second) ≡ false → length old < length new → ⊥
  history_no_longer h less =
      let a = left first before old old_is in
      let b = left second after new new_is in
      let more : length first < length second = omega (arith, a, b, less, same) in
      no_longer (length first) (length second) h more

-- Holds if a client's call that may move went on by itself, and the client was handed what came next.
pub record WakesUp (next : Next) (client : ℕ) (before after : Playing) : Type 0 where
  pub ready : IsReady before
  pub busy : is_busy client before.past ≡ true
  pub parked : is_in_flight (call_of before.past client) before.flights ≡ false
  pub moves : may_move before.past before.flights (call_of before.past client) ≡ true
  pub past : after.past ≡ gone_on (call_of before.past client) before.past
  pub went : HasGoneOn after.past before.flights after.flights (call_of before.past client) next
  pub chore : after.chore ≡ before.chore
  pub legal : Legal after.past
  pub released : after.released ≡ before.released
  pub given : Given client (leave_of next) before.seats after.seats

module _ (next : Next) (client : ℕ) (before after : Playing) (w : WakesUp next client before after) where
  same_lines : KeepsLines before after
  same_lines = given_lines client (leave_of next) before after w.released w.given

  woken : Woken (call_of before.past client) next before after
  woken = record {
    settled = w.ready.legal.settled;
    lawful = w.legal.lawful;
    parked = w.parked;
    moves = w.moves;
    past = w.past;
    went = w.went;
    lines = same_lines;
  }

  moved : (after.past ≡ before.past) ⊎ GoneOn before.past after.past (call_of before.past client)
  moved = subst (λ (H : List Event). (H ≡ before.past) ⊎ GoneOn before.past H (call_of before.past client)) (sym w.past) (goes_grouped before.past (call_of before.past client) (busy_call before.past client w.ready.legal.lawful w.busy) w.ready.legal.settled)

  woke_unnamed : (label : List ℕ) → times_made label after.past ≡ times_made label before.past
  woke_unnamed label = by moved
    where
      by : (after.past ≡ before.past) ⊎ GoneOn before.past after.past (call_of before.past client) → times_made label after.past ≡ times_made label before.past
      by (inl same) = ap (times_made label) same
      by (inr more) =
          let n = call_of before.past client in
          names_none before.past after.past more.first n more.grouped (begins_no_entry n more.first (begins_itself n more.first more.itself)) label

  pub woke_hands : Hands client next before.seats after.seats
  woke_hands = given_hands client next before.seats after.seats ((w.ready.seats client).room w.busy) w.given

  pub woke_ready : IsReady after
  woke_ready =
      wake_ready before after client next w.ready w.busy w.parked w.past w.went w.legal (w.chore ∙ w.ready.free) woke_hands
      (lines_fit before after same_lines woke_unnamed w.ready.lines)

  pub woke_quiet : HearsNothing before.past after.past
  woke_quiet = by moved
    where
      by : (after.past ≡ before.past) ⊎ GoneOn before.past after.past (call_of before.past client) → HearsNothing before.past after.past
      by (inl same) = hears_none before.past after.past same
      by (inr more) = step_quiet before.past after.past more.first (call_of before.past client) more.grouped (itself_quiet (call_of before.past client) more.first more.itself)

  pub woke_course : SameCourse before after
  woke_course = record { ended = by moved; released = w.released; named = times_still before after same_lines woke_unnamed }
    where
      by : (after.past ≡ before.past) ⊎ GoneOn before.past after.past (call_of before.past client) → has_ended after.past ≡ has_ended before.past
      by (inl same) = ap has_ended same
      by (inr more) =
          let g = more.grouped in
          ap has_ended g.grown ∙ (step_ended before.past g.events more.first (call_of before.past client) (end_step before.past after.past more.first (call_of before.past client) g w.legal.lawful) ∙ itself_ends_none (call_of before.past client) more.first before.past more.itself)

  -- If the history didn't grow, it is as it was.
  pub woke_same : (length before.past < length after.past → ⊥) → after.past ≡ before.past
  woke_same short = by moved
    where
      by : (after.past ≡ before.past) ⊎ GoneOn before.past after.past (call_of before.past client) → after.past ≡ before.past
      by (inl same) = same
      by (inr more) = absurd (short (grows before.past after.past more.first (call_of before.past client) more.grouped))

  pub woke_leave : after.past ≡ before.past → is_some (seat after.seats client).permit ≡ true
  woke_leave same =
      ap (λ (s : Seat). is_some s.permit) w.given.here
      ∙ stays_to_send before.past before.flights (call_of before.past client) next (busy_unfinished before.past client w.busy) w.parked w.moves (subst (λ (H : List Event). next_for H before.flights (call_of before.past client) ≡ Some next) same w.went.answers)

  pub woke_wakes : (shows : Bool) → (shows ≡ true → length before.past < length after.past) → (shows ≡ false → after.past ≡ before.past) → (m : Moment) → IsAt m before → Wakes shows m (call_of before.past client) before after
  woke_wakes shows longer same m at = wakes shows m (call_of before.past client) next before after (λ is it. let more = longer is in let long = ap length it in omega (arith, more, long)) same woken at
