-- The script's end is carried out. The argument joins its three parts: everything goes on, the run ends, and
-- everything goes on again.
use Rattle.std.proofs.Common.{◌≡◌, ℕ, Bool, true, false, List, [], Option, None, is_some, refl, ◌∙◌}
use Rattle.std.specs.Prelude.{Result, Ok, Err, OnOk}
use Rattle.dsql_engine_laws.specs.driver.Wires.{WireTold}
use Rattle.dsql_engine_laws.specs.driver.declared.wire.Fleet.{Ghosts}
use Rattle.dsql_engine_laws.specs.history.Readers.Course.{has_ended}
use Rattle.dsql_engine_laws.specs.history.Rules.House.{chore_due, is_quiet}
use Rattle.dsql_engine_laws.specs.history.Legal.{Legal}
use Rattle.dsql_engine_laws.specs.laws_ends.Over.{IsOver}
use Rattle.dsql_engine_laws.specs.follows.Moments.{Moment, at_end}
use Rattle.dsql_engine_laws.specs.wire.Journaled.{Journaled}
use Rattle.dsql_player_wires.specs.Told.{FleetTells, SameAbility}
use Rattle.dsql_player_wires.specs.WiresFit.{WiresFit, slot}
use Rattle.dsql_player.specs.declared.halt.Halt.{Halt}
use Rattle.dsql_player.specs.Acts.{ComesToEnd}
use Rattle.dsql_player.specs.Carried.{CarriesEnd, HearsNothing, KeepsRun}
use Rattle.dsql_player.specs.Playing.{IsAt, IsReady, Playing}
use Rattle.dsql_player.specs.Stepping.{IsEnd, RunsOut, TakesStep, goes}
use Rattle.dsql_player.proofs.Emptied.{emptied}
use Rattle.dsql_player.proofs.Ending.{is_quiet_then}
use Rattle.dsql_player.proofs.Hearing.{hears_none}
use Rattle.dsql_player.proofs.Fitting.{stops_unheard}
use Rattle.dsql_player.proofs.Keeping.{run_after, run_stops_on, run_then}
use Rattle.dsql_player.proofs.LastPart.{all_over, end_begun, end_done, end_ended, end_on}
use Rattle.dsql_player.specs.Keeping.{SameCourse}

pub on_ok2 : {T E P Q R : Type 0} (r : Result T E) → (P → Q → R) → OnOk r P → OnOk r Q → OnOk r R
on_ok2 (Ok x) f p q = f p q
on_ok2 (Err e) f p q = tt

-- Holds if at the script's end everything has gone on until nobody may, and the run has ended or not.
pub record RanOut (over : Bool) (p : Playing) : Type 0 where
  pub ready : IsReady p
  pub released : p.released ≡ true
  pub ended : has_ended p.past ≡ over
  pub none : chore_due p.past ≡ None
  pub nobody : (client : ℕ) → goes p client ≡ false

pub ran_out : {A : Type 0} (result : Result A Halt) (over : Bool) (old new : Playing) → old.released ≡ true → has_ended old.past ≡ over
    → OnOk result (IsReady new) → OnOk result (SameCourse old new) → OnOk result (chore_due new.past ≡ None) → OnOk result ((client : ℕ) → goes new client ≡ false) → OnOk result (RanOut over new)
ran_out (Ok x) over old new released ended ready course none nobody = record { ready = ready; released = course.released ∙ released; ended = course.ended ∙ ended; none = none; nobody = nobody }
ran_out (Err e) over old new released ended ready course none nobody = tt

pub quiet_out : (over : Bool) (p : Playing) → RanOut over p → is_quiet p.past ≡ true
quiet_out over p out = is_quiet_then p out.ready (out.ready.lines.held out.released) out.none out.nobody

pub over_out : (p : Playing) → RanOut true p → IsOver p.past
over_out p out = all_over p out.ready out.released out.ended out.none out.nobody

pub empty_out : {W : Type 0} (heard : W → Option WireTold) (telling : Bool) (p : Playing) (slots : List (Option (Journaled W))) → RanOut true p → WiresFit heard telling p.past slots → (c : ℕ) → slot slots c ≡ None
empty_out heard telling p slots out fit = emptied heard telling p.past slots (over_out p out) fit

-- The script comes to its end and everything goes on, then the run ends, and everything goes on again.

pub gone_far : (m : Moment) (old begun far : Playing) → begun.past ≡ old.past → ((now : Moment) → IsAt now old → IsAt (at_end now) begun) → ((now : Moment) → IsAt now begun → RunsOut now begun far) → IsAt m old → ComesToEnd m old far
gone_far m old begun far same here out at = end_on m old begun far (end_begun m old begun at same (here m at)) out

pub gone_over : (m : Moment) (old far over : Playing) → RanOut false far → ((now : Moment) → IsAt now far → TakesStep now far over IsEnd) → ComesToEnd m old far → ComesToEnd m old over
gone_over m old far over out step comes = end_ended m old far over out.ready out.released out.ended out.none out.nobody comes step

pub gone_out : (m : Moment) (old over new : Playing) → ComesToEnd m old over → ((now : Moment) → IsAt now over → RunsOut now over new) → RanOut true new → CarriesEnd m old.past new.past
gone_out m old over new comes runs out = end_done m old new out.ready out.released out.ended out.none out.nobody (end_on m old over new comes runs)

-- What the fleet records of the parts adds up to what it records of the whole.
pub run_through : {A F W : Type 0} (fleet : Ghosts F W) (heard : W → Option WireTold) (result : Result A Halt) (before between after : F) (old begun far over new : Playing) (slots halfway now : List (Option (Journaled W)))
    → begun.past ≡ old.past → FleetTells heard [] (fleet.told before) (fleet.told between) begun.past far.past slots halfway → SameAbility fleet before between → HearsNothing far.past over.past
    → KeepsRun fleet heard result between after over new halfway now → KeepsRun fleet heard result before after old new slots now
run_through fleet heard result before between after old begun far over new slots halfway now same told able silent r =
    run_after fleet heard result before after old begun new slots now (hears_none old.past begun.past same)
    (run_then [] fleet heard result before between after begun far new slots halfway now told able (run_after fleet heard result between after far over new halfway now silent r))

-- If the run couldn't end, nothing came of the attempt.
pub run_halts : {A F W : Type 0} (fleet : Ghosts F W) (heard : W → Option WireTold) (halt : Halt) (before between : F) (old begun far over : Playing) (slots halfway : List (Option (Journaled W)))
    → begun.past ≡ old.past → FleetTells heard [] (fleet.told before) (fleet.told between) begun.past far.past slots halfway → SameAbility fleet before between → WiresFit heard (is_some (fleet.told between)) far.past halfway
    → HearsNothing far.past over.past → Legal over.past → KeepsRun {A = A} fleet heard (Err halt) before between old over slots halfway
run_halts fleet heard halt before between old begun far over slots halfway same told able fit silent legal =
    run_through fleet heard (Err halt) before between between old begun far far over slots halfway halfway same told able (hears_none far.past far.past refl)
    (run_stops_on fleet heard (Err halt) between far over halfway halfway refl fit (stops_unheard heard far.past over.past halfway silent) legal)
