-- After each of its steps a player in a race stands at the resting moment, and its entries stay in the order of the
-- lines. The argument is that there is no call 0, whose step the resting moment is.
use Rattle.std.proofs.Common.{◌≡◌, ℕ, Bool, true, false, not, ◌&&◌, ◌||◌, List, [], ◌∷◌, ◌++◌, length, drop, reverse, refl, ap, sym, subst, ◌∙◌, append_assoc, arith}
use Rattle.dsql_engine_laws.specs.history.declared.event.Event.{Event}
use Rattle.dsql_engine_laws.specs.history.Readers.Clients.{made_by}
use Rattle.dsql_engine_laws.specs.history.Rules.Flights.{is_blocked, is_in_flight}
use Rattle.dsql_engine_laws.specs.history.Rules.Stands.{stand}
use Rattle.dsql_engine_laws.specs.history.Legal.{Lawful}
use Rattle.dsql_engine_laws.proofs.laws.Truths.{or_second}
use Rattle.dsql_engine_laws.proofs.Keeping.{nobody}
use Rattle.dsql_engine_laws.specs.follows.declared.line.Line.{Line}
use Rattle.dsql_engine_laws.specs.follows.Moments.{Moment, is_start, last_entered, lines_of, takes_permit}
use Rattle.dsql_engine_laws.specs.follows.Sentences.{enters_in_order}
use Rattle.dsql_engine_laws.specs.follows.Turns.{can_move}
use Rattle.dsql_engine_laws.specs.laws_steps.Steps.{stepped}
use Rattle.dsql_engine_laws.proofs.laws_steps.Later.{step_is_group}
use Rattle.dsql_player.specs.Playing.{IsAt, Playing}
use Rattle.dsql_player.specs.Stepping.{TakesStep, Wakes}
use Rattle.dsql_player.proofs.Taking.{nobody_sends}
use Rattle.dsql_hall_steps.specs.Racing.{Races, raced, resting}
use Rattle.dsql_hall_steps.proofs.Ordered.{ordered_then, step_ordered}

-- A player that stands at some moment at which all lines were read and the held calls are released stands at the resting
-- one.
pub rests_too : (lines : List Line) (m : Moment) (p : Playing) → IsAt m p → m.lines ≡ reverse lines → m.released ≡ true → Lawful p.past → IsAt (resting lines p) p
rests_too lines m p at met released l = record {
  past = refl;
  flights = refl;
  released = sym released ∙ at.released;
  rest = ap (λ flights. record (resting lines p) { flights = flights }) (nobody_sends p.past p.flights l);
  whole =
      or_second (is_in_flight 0 p.flights) (not (can_move (resting lines p) 0))
      (ap (λ b. not (b && (is_in_flight 0 p.flights || not (is_blocked p.flights 0 (stand p.past 0))))) (nobody p.past 0 l refl));
  made = λ client.
      let so_many = at.made client in
      let calls = ap (λ H. made_by H client) at.past in
      let read = ap (λ ls. length (lines_of ls client)) met in
      omega (arith, so_many, calls, read);
  kept = λ client.
      ap (λ H. drop (made_by H client) (lines_of (reverse lines) client)) (sym at.past)
      ∙ (ap (λ ls. drop (made_by m.past client) (lines_of ls client)) (sym met) ∙ at.kept client);
  held = λ client busy. ap (λ b. not b && is_start (last_entered m client)) (sym released) ∙ at.held client busy;
}

-- Entries in order after a race are in order with those of the race.
pub races_on : (run : Event) (lines : List Line) (past after : List Event) (now : Moment) (more : List Event) → now.past ≡ past → now.lines ≡ reverse lines → after ≡ more ++ past
    → enters_in_order now more ≡ true → Races run lines past → Races run lines after
races_on run lines past after now more same met grown then r = record {
  events = more ++ r.events;
  is = grown ∙ (ap (λ H. more ++ H) r.is ∙ sym (append_assoc more r.events (run ∷ [])));
  ordered = ordered_then (raced run lines) now r.events more (same ∙ r.is) met r.ordered then;
}

-- Each step.

pub step_rests : (lines : List Line) (before after : Playing) (kind : Event → ℕ → Type 0) → TakesStep (resting lines before) before after kind → Lawful after.past → IsAt (resting lines after) after
step_rests lines before after kind t l = rests_too lines (stepped (resting lines before) t.first t.call t.events) after t.at refl refl l

pub step_races : (run : Event) (lines : List Line) (before after : Playing) (kind : Event → ℕ → Type 0) → Races run lines before.past → TakesStep (resting lines before) before after kind
    → Races run lines after.past
step_races run lines before after kind r t =
    let m = resting lines before in
    races_on run lines before.past after.past m t.events refl refl t.grows (step_ordered m t.first t.call t.events (step_is_group m t.first t.call t.events t.step) t.may) r

-- A call that is woken takes a step, or only takes a permit.

pub wakes_rests : (shows : Bool) (lines : List Line) (n : ℕ) (before after : Playing) → Wakes shows (resting lines before) n before after → Lawful after.past → IsAt (resting lines after) after
wakes_rests true lines n before after w l = step_rests lines before after _ w l
wakes_rests false lines n before after w l = rests_too lines (takes_permit n (resting lines before)) after w.1 refl refl l

pub wakes_races : (shows : Bool) (run : Event) (lines : List Line) (n : ℕ) (before after : Playing) → Races run lines before.past → Wakes shows (resting lines before) n before after → Races run lines after.past
wakes_races true run lines n before after r w = step_races run lines before after _ r w
wakes_races false run lines n before after r w = subst (Races run lines) (sym w.0) r
