-- Proves that the player carries out single steps and begins lines. The argument joins what the player keeps
-- with the step that it made.
use Rattle.std.proofs.Common.{◌≡◌, ℕ, ◌<◌, Bool, true, false, not, List, Option, [], length, refl, sym, ap, subst}
use Rattle.std.specs.Prelude.{Result, Ok, Err, IfErr, IsErr, is_some}
use Rattle.dsql_engine_laws.specs.driver.Wires.{WireTold}
use Rattle.dsql_engine_laws.specs.driver.declared.wire.Fleet.{Ghosts}
use Rattle.dsql_engine_laws.specs.driver.declared.wire.Planned.{Planned}
use Rattle.dsql_engine_laws.specs.history.declared.event.Event.{Event}
use Rattle.dsql_engine_laws.specs.history.declared.event.Op.{Op}
use Rattle.dsql_engine_laws.specs.history.declared.event.Control.{Control}
use Rattle.dsql_engine_laws.specs.history.declared.record.Flight.{Flight}
use Rattle.dsql_engine_laws.specs.history.Legal.{Lawful, Legal}
use Rattle.dsql_engine_laws.specs.history.Readers.Calls.{is_busy}
use Rattle.dsql_engine_laws.specs.history.Readers.Clients.{call_of}
use Rattle.dsql_engine_laws.specs.history.Rules.Flights.{is_in_flight, without_flight}
use Rattle.dsql_engine_laws.specs.laws_ends.Over.{may_move}
use Rattle.dsql_engine_laws.specs.follows.declared.line.Line.{Line}
use Rattle.dsql_engine_laws.specs.follows.declared.line.Line.TheVariants as lines
use Rattle.dsql_engine_laws.specs.follows.declared.line.Line.TheVariants.{Client, Fault, Skip, Start, Step, StepHouse}
use Rattle.dsql_engine_laws.specs.follows.Labels.{times_in}
use Rattle.dsql_engine_laws.specs.follows.Moments.{Moment}
use Rattle.dsql_engine_laws.specs.follows.Sentences.{runs_on}
use Rattle.dsql_player_wires.specs.Seats.{seat}
use Rattle.dsql_engine_laws.specs.laws_steps.Groups.{gone_on}
use Rattle.dsql_engine_laws.specs.wire.Journaled.{Journaled}
use Rattle.dsql_player_wires.specs.WiresFit.{WiresFit}
use Rattle.dsql_player.specs.declared.halt.Halt.{Halt}
use Rattle.dsql_player.specs.declared.halt.Halt.TheVariants as halts
use Rattle.dsql_player.specs.Acts.{Begun}
use Rattle.dsql_player.specs.Carried.{Carries, HearsNothing, KeepsRun, KeepsWires}
use Rattle.dsql_player.specs.Planned.{plans_of}
use Rattle.dsql_player.specs.Playing.{IsAt, IsReady, Playing}
use Rattle.dsql_player.specs.Stepping.{HearsAnswer, IsAnswerTo, MakesChore, TakesStep, Wakes}
use Rattle.dsql_player.proofs.Fitting.{fits_unheard, plans_unheard, stops_unheard}
use Rattle.dsql_player.proofs.Keeping.{run_goes}
use Rattle.dsql_player.proofs.Lines.{begun_fault, begun_skip}
use Rattle.dsql_player.proofs.Singles.{answer_steps, chore_steps, flies_ready, idle_house_steps, itself_steps, leave_steps}
use Rattle.dsql_player.proofs.Standing.{answer_taken, has_lines}
use Rattle.dsql_player.specs.Keeping.{ActsUnheard}

-- If nothing was heard, the wires fit as before.

pub woken_wires : {A B W : Type 0} (heard : W → Option WireTold) (x : A) (y : B) (old new : Playing) (slots : List (Option (Journaled W))) → ActsUnheard {A = A} (Ok x) old new → KeepsWires {A = B} heard (Ok y) old new slots slots
woken_wires heard x y old new slots a = record {
  ready = a.ready;
  wires = fits_unheard heard old.past new.past slots a.unheard;
  plans = plans_unheard heard old.past new.past slots a.unheard;
  told = a.unheard.told;
  stops = tt;
  legal = a.legal;
}

pub wires_stay : {A W : Type 0} (heard : W → Option WireTold) (result : Result A Halt) (old new : Playing) (slots : List (Option (Journaled W))) → IsErr result → HearsNothing old.past new.past → Legal new.past → KeepsWires heard result old new slots slots
wires_stay heard (Ok x) old new slots err same legal = absurd cc
wires_stay heard (Err e) old new slots err same legal = record { ready = tt; wires = tt; plans = tt; told = tt; stops = stops_unheard heard old.past new.past slots same; legal = legal }

pub wires_unheard : {A W : Type 0} (heard : W → Option WireTold) (result : Result A Halt) (old new : Playing) (slots : List (Option (Journaled W))) → ActsUnheard result old new → KeepsWires heard result old new slots slots
wires_unheard heard (Ok x) old new slots a = woken_wires heard x x old new slots a
wires_unheard heard (Err e) old new slots a = wires_stay heard (Err e) old new slots refl a.unheard a.legal

-- If nothing was heard, the fleet has nothing to record.
pub run_unheard : {A B F W : Type 0} (fleet : Ghosts F W) (heard : W → Option WireTold) (x : A) (y : B) (now : F) (old new : Playing) (slots : List (Option (Journaled W)))
    → WiresFit heard (is_some (fleet.told now)) old.past slots → ActsUnheard {A = A} (Ok x) old new → KeepsRun {A = B} fleet heard (Ok y) now now old new slots slots
run_unheard fleet heard x y now old new slots fit a = run_goes fleet heard y now old new slots slots fit a.ready (fits_unheard heard old.past new.past slots a.unheard) (plans_unheard heard old.past new.past slots a.unheard) a.unheard.told a.legal

-- A call makes a single step.

pub flipped : (a b : Bool) → not a ≡ b → a ≡ not b
flipped true b is = ap not is
flipped false b is = ap not is

-- A call whose answer was brought back made a single step.
pub answered_steps : (m : Moment) (old new : Playing) (client : ℕ) → IsReady old → Lawful new.past → is_busy client old.past ≡ true → is_some (seat old.seats client).permit ≡ true
    → HearsAnswer (call_of old.past client) old new → IsAt m old → Carries m (Step client) old new
answered_steps m old new client ready lawful busy some hears at =
    answer_steps m old new client ready.legal.lawful at busy (flies_ready old client ready some) step
  where
    n : ℕ
    n = call_of old.past client

    step : (now : Moment) → IsAt now old → TakesStep now old new (IsAnswerTo n)
    step now here = answer_taken now n old new (has_lines now old here) here.rest (ap (λ (flights : List Flight). without_flight n flights) here.flights) lawful hears

-- A call that was woken made a single step.
pub woken_steps : (shows : Bool) (m : Moment) (old new : Playing) (client : ℕ) → IsReady old → IsReady new → is_busy client old.past ≡ true → is_in_flight (call_of old.past client) old.flights ≡ false
    → may_move old.past old.flights (call_of old.past client) ≡ true → new.past ≡ gone_on (call_of old.past client) old.past
    → (shows ≡ false → is_some (seat new.seats client).permit ≡ true) → (shows ≡ true → length old.past < length new.past)
    → ((now : Moment) → IsAt now old → Wakes shows now (call_of old.past client) old new) → IsAt m old → Carries m (Step client) old new
woken_steps true m old new client ready after busy parked moves group leave grows wakes at = itself_steps m old new client ready.legal.lawful at busy parked moves group (grows refl) wakes
woken_steps false m old new client ready after busy parked moves group leave grows wakes at = leave_steps m old new client ready.legal.lawful at busy parked moves after (leave refl) wakes

-- The layer that made its first chore, or had none, made a single step.
pub house_stepped : (made : Bool) (m : Moment) (old new : Playing) → MakesChore made old new → IsAt m old → Carries m StepHouse old new
house_stepped true m old new makes at = chore_steps m old new at makes.1
house_stepped false m old new makes at = subst (λ (p : Playing). Carries m StepHouse old p) (sym makes.0) (idle_house_steps m old at makes.1)

-- Lines that run on.

-- A line that is skipped or that plans a fault begins with no step of its own.
pub skipped : (line : Line) (m : Moment) (p : Playing) → runs_on line ≡ true → ((control : Control) → line ≡ lines.Control control → ⊥) → ((client : ℕ) (op : Op) → line ≡ Client client op → ⊥) → IsAt m p → Begun m line p p
skipped Skip m p runs not_control not_client at = begun_skip m p at
skipped (Fault conn nth what) m p runs not_control not_client at = begun_fault m conn nth what p at
skipped (lines.Control control) m p runs not_control not_client at = absurd (not_control control refl)
skipped (Client client op) m p runs not_control not_client at = absurd (not_client client op refl)
skipped _ m p runs not_control not_client at = absurd cc

pub runs_then : (line : Line) → ((client : ℕ) (op : Op) → line ≡ Start client op → ⊥) → ((client : ℕ) → line ≡ Step client → ⊥) → (line ≡ StepHouse → ⊥) → runs_on line ≡ true
runs_then (Start client op) not_start not_step not_house = absurd (not_start client op refl)
runs_then (Step client) not_start not_step not_house = absurd (not_step client refl)
runs_then StepHouse not_start not_step not_house = absurd (not_house refl)
runs_then _ not_start not_step not_house = refl

pub makes_none : (line : Line) → runs_on line ≡ true → ((client : ℕ) (op : Op) → line ≡ Client client op → ⊥) → (label : List ℕ) → times_in label line ≡ 0
makes_none (Client client op) runs not_client label = absurd (not_client client op refl)
makes_none (Start client op) runs not_client label = absurd cc
makes_none line runs not_client label = refl

pub plans_none : (line : Line) (past : List Event) → ((conn nth : ℕ) (what : Planned) → line ≡ Fault conn nth what → ⊥) → plans_of line past ≡ []
plans_none (Fault conn nth what) past none = absurd (none conn nth what refl)
plans_none _ past none = refl

-- A want of memory isn't a full run.
pub not_full : {A : Type 0} (result : Result A Halt) (P : Type 0) → IfErr result (λ halt. halt ≡ halts.Memory) → result ≡ Err halts.Full → P
not_full (Ok x) P memory is = absurd cc
not_full (Err e) P memory is = absurd cc
