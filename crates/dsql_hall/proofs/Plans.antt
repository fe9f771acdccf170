-- A race plans its faults with the fleet alone, so no wire has a plan or a want as it begins. The argument goes over
-- the plans.
use Rattle.std.proofs.Common.{◌≡◌, ℕ, true, List, [], ◌∷◌, ◌++◌, Option, None, refl, ap, sym, ◌∙◌}
use Rattle.std.specs.Prelude.{filter_map, map, option_map, reverse}
use Rattle.std.specs.List.{cons_option}
use Rattle.std.proofs.lemmas.List.{map-append, reverse-append}
use Rattle.std.proofs.lemmas.List.Elements.{filter_map-append}
use Rattle.dsql_hall_steps.specs.driver.declared.caps.Caps.{Caps}
use Rattle.dsql_hall_steps.specs.driver.declared.wire.Planned.{Planned}
use Rattle.dsql_hall_steps.specs.driver.Wires.{FleetTold, WirePlan, WireTold, plans_after}
use Rattle.dsql_hall_steps.specs.history.declared.event.Event.{Event}
use Rattle.dsql_hall_steps.specs.history.declared.event.Event.TheVariants.{Run}
use Rattle.dsql_hall_steps.specs.follows.declared.line.Line.{Line}
use Rattle.dsql_hall_steps.specs.follows.declared.line.Line.TheVariants as lines
use Rattle.dsql_hall_steps.specs.wire.Journaled.{Journaled}
use Rattle.dsql_hall_steps.specs.player_wires.Asked.{Plans}
use Rattle.dsql_hall_steps.specs.player_wires.Made.{Made, PlannedAhead, aside_on, no_aside}
use Rattle.dsql_hall_steps.specs.player_wires.Told.{FleetTells, fleet_told, told_then, with_told}
use Rattle.dsql_hall_steps.specs.player_wires.WiresFit.{PlansFit}
use Rattle.dsql_hall_steps.proofs.player_wires.Planned.{plan_tells}
use Rattle.dsql_hall.specs.Raced.{plan_of, plans_first}

none_planned : (plans : List WirePlan) (c : ℕ) → aside_on (map (λ plan. PlannedAhead (0, plan)) plans) c ≡ no_aside
none_planned [] c = refl
none_planned (plan ∷ earlier) c = none_planned earlier c

-- Without a wire, each wire has these plans and wants.
pub none_fit : {W : Type 0} (heard : W → Option WireTold) (script : List Line) (past : List Event) (slots : List (Option (Journaled W))) → slots ≡ [] → PlansFit heard (plans_first script) past slots
none_fit heard script past slots none = rw none (λ c. record { unheard = λ empty. none_planned (reverse (filter_map plan_of script)) c; told = tt })

-- As a race is closed, let a fleet have recorded exactly the history of the house's bond. After the end of the run it
-- records exactly the history.
pub tells_closed : {W : Type 0} (heard : W → Option WireTold) (made : List Made) (before after first : Option FleetTold) (own old new : List Event) (slots now : List (Option (Journaled W))) → PlansFit heard made old slots
    → fleet_told made old ≡ fleet_told made own → FleetTells heard [] before after old new slots now → before ≡ with_told made first own → after ≡ with_told made first new
tells_closed heard made before after first own old new slots now plans is tells was =
    (tells.told made first (record { fleet = was ∙ ap (λ (told : FleetTold). option_map (told_then told) first) (sym is); wires = plans })).fleet

-- One more line plans its fault, or nothing.

one_more : (script : List Line) (line : Line) → plans_first (script ++ line ∷ []) ≡ map (λ plan. PlannedAhead (0, plan)) (reverse (filter_map plan_of (line ∷ []))) ++ plans_first script
one_more script line =
    ap (λ plans. map (λ plan. PlannedAhead (0, plan)) (reverse plans)) (filter_map-append plan_of script (line ∷ []))
    ∙ (ap (map (λ plan. PlannedAhead (0, plan))) (reverse-append (filter_map plan_of script) (filter_map plan_of (line ∷ [])))
    ∙ map-append (λ plan. PlannedAhead (0, plan)) (reverse (filter_map plan_of (line ∷ []))) (reverse (filter_map plan_of script)))

-- As a race begins, a fault that is planned with the fleet is the newest of the plans.
pub fault_told : (script : List Line) (conn nth : ℕ) (what : Planned) (caps : Caps) (first before after : Option FleetTold) → after ≡ plans_after (conn, (nth, what)) before
    → before ≡ with_told (plans_first script) first (Run 1 caps ∷ []) → after ≡ with_told (plans_first (script ++ lines.Fault conn nth what ∷ [])) first (Run 1 caps ∷ [])
fault_told script conn nth what caps first before after told was =
    let heard : Unit {0} → Option WireTold = λ wire. None in
    let plans : Plans heard conn (nth, what) before after [] [] = record { here = (refl, told); others = λ d apart. refl } in
    let tells : FleetTells heard (PlannedAhead (0, (conn, (nth, what))) ∷ []) before after (Run 1 caps ∷ []) (Run 1 caps ∷ []) [] [] =
    plan_tells heard true conn (nth, what) before after (Run 1 caps ∷ []) [] [] (λ c. refl) plans in
    (tells.told (plans_first script) first (record { fleet = was; wires = none_fit heard script (Run 1 caps ∷ []) [] refl })).fleet
    ∙ ap (λ made. with_told made first (Run 1 caps ∷ [])) (sym (one_more script (lines.Fault conn nth what)))

-- A line that plans nothing adds nothing.
pub none_more : (script : List Line) (line : Line) → plan_of line ≡ None → plans_first (script ++ line ∷ []) ≡ plans_first script
none_more script line none = one_more script line ∙ ap (λ plan. map (λ p. PlannedAhead (0, p)) (reverse (cons_option plan [])) ++ plans_first script) none
