-- A race begins with a player that keeps all lines. The argument is that limits that are set before enter no line, and
-- that a player that keeps one more line has read one more.
use Rattle.std.proofs.Common.{◌≡◌, ℕ, true, false, not, ◌&&◌, ◌||◌, List, [], ◌∷◌, ◌++◌, drop, reverse, refl, ap, sym, ◌∙◌, arith}
use Rattle.std.proofs.lemmas.List.{reverse-append}
use Rattle.dsql_engine_laws.specs.history.declared.event.Event.{Event}
use Rattle.dsql_engine_laws.specs.history.declared.event.Control.{Control}
use Rattle.dsql_engine_laws.specs.history.declared.event.Control.TheVariants.{Tick, Set}
use Rattle.dsql_engine_laws.specs.history.Readers.Clients.{made_by}
use Rattle.dsql_engine_laws.specs.history.Readers.Controls.{taken, told}
use Rattle.dsql_engine_laws.specs.history.Rules.Flights.{is_blocked, is_in_flight}
use Rattle.dsql_engine_laws.specs.history.Rules.Stands.{stand}
use Rattle.dsql_engine_laws.specs.history.Legal.{Lawful}
use Rattle.dsql_engine_laws.proofs.laws.Truths.{or_second}
use Rattle.dsql_engine_laws.proofs.Keeping.{nobody}
use Rattle.dsql_engine_laws.specs.follows.declared.line.Line.{Line}
use Rattle.dsql_engine_laws.specs.follows.Moments.{Moment, lines_of, met}
use Rattle.dsql_engine_laws.specs.follows.Sentences.{may_enter}
use Rattle.dsql_engine_laws.specs.follows.Turns.{can_move}
use Rattle.dsql_engine_laws.proofs.laws_steps.Later.{step_is_group}
use Rattle.dsql_player_wires.specs.Seats.{seat}
use Rattle.dsql_player.specs.Playing.{IsAt, Playing, lines_kept}
use Rattle.dsql_player.specs.Stepping.{IsTold, TakesStep}
use Rattle.dsql_player.proofs.Taking.{nobody_sends}
use Rattle.dsql_hall_steps.specs.Racing.{Races, resting}
use Rattle.dsql_hall_steps.proofs.Ordered.{step_ordered}
use Rattle.dsql_hall_steps.proofs.Entering.{races_on, rests_too}

pub first_races : (run : Event) (lines : List Line) → Races run lines (run ∷ [])
first_races run lines = record { events = []; is = refl; ordered = refl }

-- A limit or a moment enters no line, whichever lines the race has.

told_may : (m : Moment) (control : Control) → may_enter m (told control) ≡ true
told_may m (Tick now) = refl
told_may m (Set setting n) = refl

pub told_races : (run : Event) (lines : List Line) (m : Moment) (before after : Playing) (control : Control) → TakesStep m before after (IsTold before.past control) → Races run lines before.past
    → Races run lines after.past
told_races run lines m before after control t r =
    let now = resting lines before in
    races_on run lines before.past after.past now t.events refl refl t.grows
    (step_ordered now t.first t.call t.events (step_is_group m t.first t.call t.events t.step) (ap (may_enter now) t.kind_is.told ∙ told_may now (taken before.past control))) r

-- The player reads the lines one by one, before any of them enters.

pub keeping_rests : (lines : List Line) (line : Line) (before after : Playing) → IsAt (resting lines before) before → ((m : Moment) → IsAt m before → IsAt (met line m) after) → Lawful after.past
    → IsAt (resting (lines ++ line ∷ []) after) after
keeping_rests lines line before after at keeps l =
    rests_too (lines ++ line ∷ []) (met line (resting lines before)) after (keeps (resting lines before) at) (sym (reverse-append lines (line ∷ []))) refl l

-- A player that keeps all lines, of which none has entered, stands at the resting moment.
pub begun_rests : (lines : List Line) (p : Playing) → Lawful p.past → p.released ≡ true → ((client : ℕ) → made_by p.past client ≡ 0)
    → ((client : ℕ) → lines_of (reverse lines) client ≡ lines_kept client (seat p.seats client).kept) → ((client : ℕ) → (seat p.seats client).held ≡ false) → IsAt (resting lines p) p
begun_rests lines p l released none kept held = record {
  past = refl;
  flights = refl;
  released = sym released;
  rest = ap (λ flights. record (resting lines p) { flights = flights }) (nobody_sends p.past p.flights l);
  whole =
      or_second (is_in_flight 0 p.flights) (not (can_move (resting lines p) 0))
      (ap (λ b. not (b && (is_in_flight 0 p.flights || not (is_blocked p.flights 0 (stand p.past 0))))) (nobody p.past 0 l refl));
  made = λ client. let calls = none client in omega (arith, calls);
  kept = λ client. ap (λ i. drop i (lines_of (reverse lines) client)) (none client) ∙ kept client;
  held = λ client busy. sym (held client);
}
