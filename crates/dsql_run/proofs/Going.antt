-- How a history grows as a line or the script's end is carried out, and what stops it. The argument reads the
-- growth off each record, and goes through the halts case by case.
use Rattle.std.proofs.Common.{◌≡◌, false, List, [], ◌∷◌, Option, refl, sym, ap, subst, ◌∙◌}
use Rattle.std.specs.Prelude.{Err, IfErr, Result}
use Rattle.std.proofs.lemmas.Result.{IfErr-at_err}
use Rattle.dsql_run_outcome.specs.driver.declared.caps.Caps.{Caps}
use Rattle.dsql_run_outcome.specs.driver.Wires.{WireTold}
use Rattle.dsql_run_outcome.specs.driver.declared.wire.Fleet.{Ghosts}
use Rattle.dsql_run_outcome.specs.history.declared.event.Event.{Event}
use Rattle.dsql_run_outcome.specs.history.declared.event.Event.TheVariants.{Run}
use Rattle.dsql_run_outcome.specs.follows.declared.line.Line.{Line}
use Rattle.dsql_run_outcome.specs.follows.Moments.{Moment}
use Rattle.dsql_run_outcome.specs.player.Carried.{Carries, CarriesEnd, StopsInEnd, StopsInLine}
use Rattle.dsql_run_outcome.specs.player.Playing.{Playing}
use Rattle.dsql_run_outcome.specs.player.declared.halt.Halt.{Halt}
use Rattle.dsql_run_outcome.specs.player.declared.halt.Halt.TheVariants as halts
use Rattle.dsql_run_outcome.specs.script_source.declared.stop.Stop.{Stop}
use Rattle.dsql_run_outcome.specs.script_source.declared.stop.Stop.TheVariants.{Full}
use Rattle.dsql_run_outcome.specs.player_wires.Extends.{Extends}
use Rattle.dsql_run_outcome.specs.wire.Journaled.{Journaled}
use Rattle.dsql_run_outcome.specs.player_wires.Told.{with_told}
use Rattle.dsql_run_outcome.specs.player_wires.WiresFit.{PlansFit}
use Rattle.dsql_run_outcome.specs.Lent.{TellsOf, lent}
use Rattle.dsql_run_outcome.specs.Runs.{IsPlayStop, IsShowStop, is_write_fault, ran_out, stop_of_halt}
use Rattle.dsql_run_outcome.proofs.Asking.{none_told}

pub line_extends : (m : Moment) (line : Line) (old new : Playing) → Carries m line old new → Extends old.past new.past
line_extends m line old new c = record { added = c.events; whole = c.grows }

pub stop_extends : (m : Moment) (line : Line) (old new : List Event) → StopsInLine m line old new → Extends old new
stop_extends m line old new s = record { added = s.events; whole = s.grows }

pub end_extends : (m : Moment) (old new : List Event) → CarriesEnd m old new → Extends old new
end_extends m old new c = record { added = c.events; whole = c.grows }

pub end_stop_extends : (m : Moment) (old new : List Event) → StopsInEnd m old new → Extends old new
end_stop_extends m old new s = record { added = s.events; whole = s.grows }

-- Which stops a run has if it can't be carried on.

pub halt_plays : (halt : Halt) → IsPlayStop (stop_of_halt halt)
halt_plays halts.Memory = tt
halt_plays halts.Full = tt

pub halt_runs_out : (halt : Halt) → ran_out (Err (stop_of_halt halt)) ≡ false
halt_runs_out halts.Memory = refl
halt_runs_out halts.Full = refl

pub halt_writes : (halt : Halt) → is_write_fault (Err (stop_of_halt halt)) ≡ false
halt_writes halts.Memory = refl
halt_writes halts.Full = refl

pub full_halt : (halt : Halt) → stop_of_halt halt ≡ Full → halt ≡ halts.Full
full_halt halts.Memory is = absurd (cc is)
full_halt halts.Full is = refl

-- The stop of a halt doesn't let a run run out, and the lemmas after this one say the same of its other
-- properties.
pub halted : (stop : Stop) (halt : Halt) → stop ≡ stop_of_halt halt → ran_out (Err stop) ≡ false
halted stop halt is = ap (λ s. ran_out (Err s)) is ∙ halt_runs_out halt

pub halted_plays : (stop : Stop) (halt : Halt) → stop ≡ stop_of_halt halt → IsPlayStop stop
halted_plays stop halt is = subst IsPlayStop (sym is) (halt_plays halt)

pub halted_writes : (stop : Stop) (halt : Halt) → stop ≡ stop_of_halt halt → is_write_fault (Err stop) ≡ false
halted_writes stop halt is = ap (λ s. is_write_fault (Err s)) is ∙ halt_writes halt

pub halted_full : (stop : Stop) (halt : Halt) (r : Result (Unit {0}) Stop) → stop ≡ stop_of_halt halt → r ≡ Err stop → r ≡ Err Full → halt ≡ halts.Full
halted_full stop halt r is same full =
    let it : stop ≡ Full = cc (sym same ∙ full) in
    full_halt halt (sym is ∙ it)

-- A run isn't full because its events can't be shown.
pub shown_unfilled : (r : Result (Unit {0}) Stop) → IfErr r IsShowStop → r ≡ Err Full → ⊥
shown_unfilled r kind full = IfErr-at_err IsShowStop full kind

-- As a run begins, the fleet and its wires record that it has begun, no more, and no plan.
pub begins_telling : {F W : Type 0} (fleet : Ghosts F W) (heard : W → Option WireTold) (first : F) (slots : List (Option (Journaled W))) (caps : Caps) (past : List Event) → past ≡ Run 1 caps ∷ [] → PlansFit heard [] past slots
    → TellsOf (lent fleet heard first first slots) [] past
begins_telling fleet heard first slots caps past begun fit = record {
  fleet = subst (λ (start : List Event). fleet.told first ≡ with_told [] (fleet.told first) start) (sym begun) (sym (none_told (fleet.told first) caps));
  wires = fit;
}
