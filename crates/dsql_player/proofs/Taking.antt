-- The steps that the player takes, seen from the moment at which it was. The argument builds each step from the
-- player's act.
use Rattle.std.proofs.Common.{◌≡◌, ◌≢◌, ◌⊎◌, inl, inr, ℕ, ◌==◌, Bool, true, false, not, ◌||◌, cond, List, Option, Some, None, is_some, refl, ap, sym, subst, ◌∙◌}
use Rattle.dsql_engine_laws.specs.course.Made.{or_else}
use Rattle.dsql_engine_laws.specs.wait.Requests.{waits}
use Rattle.dsql_engine_laws.specs.pool.Places.{is_for}
use Rattle.dsql_engine_laws.specs.history.declared.event.Event.{Event}
use Rattle.dsql_engine_laws.specs.history.declared.event.Event.TheVariants.{Ended, Pool, Waits, Replied}
use Rattle.dsql_engine_laws.specs.history.declared.event.Control.{Control}
use Rattle.dsql_engine_laws.specs.history.declared.event.Control.TheVariants.{Tick, Set}
use Rattle.dsql_engine_laws.specs.history.declared.record.Flight.{Flight}
use Rattle.dsql_engine_laws.specs.history.declared.record.Stand.TheVariants as stands_at
use Rattle.dsql_engine_laws.specs.history.Readers.Calls.{is_busy, site}
use Rattle.dsql_engine_laws.specs.history.Readers.Controls.{told, taken, told_after}
use Rattle.dsql_engine_laws.specs.history.Readers.Pool.{pool, smallest}
use Rattle.dsql_engine_laws.specs.history.Readers.Tries.{asks_again, tries}
use Rattle.dsql_engine_laws.specs.history.Readers.Works.{work}
use Rattle.dsql_engine_laws.specs.history.Rules.Flights.{is_in_flight, permitted}
use Rattle.dsql_engine_laws.specs.laws_ends.Over.{may_move}
use Rattle.dsql_engine_laws.specs.history.Rules.Line.{due_for, due_in}
use Rattle.dsql_engine_laws.specs.history.Rules.Settled.{Settled}
use Rattle.dsql_engine_laws.specs.history.Rules.Stands.{has_to_reply, stand, opens, stands}
use Rattle.dsql_engine_laws.specs.history.Legal.{Lawful}
use Rattle.dsql_engine_laws.proofs.laws.Tests.{same_number}
use Rattle.dsql_engine_laws.specs.going.declared.next.Next.{Next}
use Rattle.dsql_engine_laws.proofs.Keeping.{nobody}
use Rattle.dsql_engine_laws.specs.follows.Moments.{Moment, landed, takes_permit}
use Rattle.dsql_engine_laws.specs.follows.Sentences.{is_whole}
use Rattle.dsql_engine_laws.specs.laws_steps.Groups.{after_end, after_control, gone_on}
use Rattle.dsql_engine_laws.specs.laws_steps.Steps.{GoesByItself, MakesStep, goes_by_itself}
use Rattle.dsql_laws_lines.specs.Entries.{is_entry}
use Rattle.dsql_engine_laws.proofs.laws_steps.Groups.{end_is_one, goes_on_by_one, control_is_one}
use Rattle.dsql_engine_laws.proofs.laws_steps.Permits.{taken_at_rest}
use Rattle.dsql_engine_laws.proofs.going.GoneOn.{call_whole, layer_whole}
use Rattle.dsql_laws_lines.proofs.Stepped.{enters_not}
use Rattle.dsql_player.specs.Playing.{IsAt, KeepsLines, Playing, lines_kept}
use Rattle.dsql_player.specs.Stepping.{IsEnd, IsOfItself, IsTold, TakesStep, Wakes}
use Rattle.dsql_player.proofs.Grouped.{none_owed}
use Rattle.dsql_player.proofs.Standing.{has_lines, step_taken}
use Rattle.dsql_player.specs.Acts.{Woken}

-- Call 0, which is nobody's, sends nothing.

sends_none : (w due r a : Bool) (o : Option ℕ) (c : ℕ) (flights : List Flight) → due ≡ false
    → permitted 0 (or_else (stands w stands_at.Waits) (or_else (opens o) (or_else (stands due (stands_at.Sends c)) (or_else (stands r stands_at.Replies) (stands a stands_at.Asks))))) flights ≡ flights
sends_none w true r a o c flights h = absurd cc
sends_none true false r a o c flights h = refl
sends_none false false r a (Some d) c flights h = refl
sends_none false false true a None c flights h = refl
sends_none false false false true None c flights h = refl
sends_none false false false false None c flights h = refl

pub nobody_sends : (H : List Event) (flights : List Flight) → Lawful H → permitted 0 (stand H 0) flights ≡ flights
nobody_sends H flights l =
    sends_none (waits 0 (pool H).waiting) (is_some (due_for H 0)) (has_to_reply H 0) (asks_again (tries H 0)) (smallest (is_for 0) (pool H)) (site H 0) flights
    (ap (λ b. is_some (cond b (due_in H 0 (work H 0)) None)) (nobody H 0 l refl))

-- Steps of nobody.

no_entry : (control : Control) → is_entry (told control) ≡ false
no_entry (Tick now) = refl
no_entry (Set setting k) = refl

lands_nothing : (control : Control) (flights : List Flight) → landed (told control) flights ≡ flights
lands_nothing (Tick now) flights = refl
lands_nothing (Set setting k) flights = refl

pub control_taken : (m : Moment) (before after : Playing) (control : Control) → IsAt m before → after.past ≡ after_control before.past control → after.flights ≡ before.flights → Lawful after.past
    → KeepsLines before after → TakesStep m before after (IsTold before.past control)
control_taken m before after control at is fly l lines =
    let first = told_after m.past control in
    let s : MakesStep m first 0 after.past = subst (MakesStep m first 0) (ap (λ H. after_control H control) at.past ∙ sym is) (control_is_one m control at.rest) in
    step_taken m first 0 before after (IsTold before.past control) (has_lines m before at) s (no_entry (taken m.past control))
    (ap (permitted 0 (stand after.past 0)) (lands_nothing (taken m.past control) m.flights) ∙ (nobody_sends after.past m.flights l ∙ (at.flights ∙ sym fly))) (layer_whole after.past after.flights l) lines
    (record { told = ap (λ H. told_after H control) at.past; of_nobody = refl })

pub end_taken : (m : Moment) (before after : Playing) → IsAt m before → after.past ≡ after_end before.past → after.flights ≡ before.flights → Lawful after.past → KeepsLines before after → TakesStep m before after IsEnd
end_taken m before after at is fly l lines =
    let s : MakesStep m Ended 0 after.past = subst (MakesStep m Ended 0) (ap after_end at.past ∙ sym is) (end_is_one m at.rest) in
    step_taken m Ended 0 before after IsEnd (has_lines m before at) s refl (nobody_sends after.past m.flights l ∙ (at.flights ∙ sym fly)) (layer_whole after.past after.flights l) lines
    (record { ended = refl; of_nobody = refl })

-- A call goes on by itself.

-- A call that may move and has no driver call under way didn't step last. The call that stepped last went as far as it
-- could.
not_last : (m : Moment) (n : ℕ) → is_whole m ≡ true → is_in_flight n m.flights ≡ false → may_move m.past m.flights n ≡ true → (n == m.stepper) ≡ false
not_last m n whole parked moves = by (n == m.stepper) refl
  where
    stuck : (is_in_flight n m.flights || not (may_move m.past m.flights n)) ≡ true → ⊥
    stuck h = let clash : false ≡ true = sym (ap (λ b. b || not (may_move m.past m.flights n)) parked ∙ ap not moves) ∙ h in cc

    by : (b : Bool) → (n == m.stepper) ≡ b → (n == m.stepper) ≡ false
    by false is = is
    by true is = absurd (stuck (subst (λ k. (is_in_flight k m.flights || not (may_move m.past m.flights k)) ≡ true) (sym (same_number n m.stepper is)) whole))

lands_none : (n : ℕ) (e : Event) (flights : List Flight) → goes_by_itself n e ≡ true → landed e flights ≡ flights
lands_none n (Replied k reply) flights h = refl
lands_none n (Waits k) flights h = refl
lands_none n (Pool move) flights h = refl
lands_none n e flights h = absurd cc

pub wake_shows : (m : Moment) (n : ℕ) (next : Next) (before after : Playing) → Woken n next before after → IsAt m before → after.past ≢ before.past → TakesStep m before after (IsOfItself n)
wake_shows m n next before after w at shows =
    by (goes_on_by_one m n at.rest (none_owed m.past (subst Settled (sym at.past) w.settled)) (not_last m n at.whole (ap (is_in_flight n) at.flights ∙ w.parked) moves))
  where
    moves : may_move m.past m.flights n ≡ true
    moves = ap (λ H. may_move H m.flights n) at.past ∙ (ap (λ flights. may_move before.past flights n) at.flights ∙ w.moves)

    grown : gone_on n m.past ≡ after.past
    grown = ap (gone_on n) at.past ∙ sym w.past

    by : (gone_on n m.past ≡ m.past) ⊎ GoesByItself m n (gone_on n m.past) → TakesStep m before after (IsOfItself n)
    by (inl none) = absurd (shows (sym grown ∙ (none ∙ at.past)))
    by (inr more) =
        step_taken m more.first n before after (IsOfItself n) (has_lines m before at) (subst (MakesStep m more.first n) grown more.step) (enters_not n more.first more.itself)
        (ap (permitted n (stand after.past n)) (lands_none n more.first m.flights more.itself ∙ at.flights) ∙ sym w.went.flights) (call_whole after.past n before.flights after.flights next w.lawful w.went) w.lines
        (record { by_itself = more.itself; of_it = refl })

pub wake_sends : (m : Moment) (n : ℕ) (next : Next) (before after : Playing) → Woken n next before after → IsAt m before → after.past ≡ before.past → IsAt (takes_permit n m) after
wake_sends m n next before after w at same =
    let taken = taken_at_rest m n at.rest at.whole in
    record {
      past = at.past ∙ sym same;
      flights = ap (λ H. permitted n (stand H n) m.flights) (at.past ∙ sym same) ∙ (ap (permitted n (stand after.past n)) at.flights ∙ sym w.went.flights);
      released = at.released ∙ sym w.lines.released;
      rest = taken.0;
      whole = taken.1;
      made = at.made;
      kept = λ client. at.kept client ∙ ap (lines_kept client) (sym (w.lines.kept client));
      held = λ client busy. at.held client (subst (λ H. is_busy client H ≡ true) same busy) ∙ sym (w.lines.held client);
    }

-- The step of a woken call shows exactly if the history grew.

pub wakes : (shows : Bool) (m : Moment) (n : ℕ) (next : Next) (before after : Playing) → (shows ≡ true → after.past ≢ before.past) → (shows ≡ false → after.past ≡ before.past) → Woken n next before after → IsAt m before
    → Wakes shows m n before after
wakes true m n next before after grew same w at = wake_shows m n next before after w at (grew refl)
wakes false m n next before after grew same w at = (same refl, wake_sends m n next before after w at (same refl))
