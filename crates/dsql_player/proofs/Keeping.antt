-- Parts of a run, one after another, and parts in which no connection is opened or shut. The argument adds up
-- what the fleet and the wires record.
use Rattle.std.proofs.Common.{◌≡◌, ℕ, true, false, List, [], Option, refl, sym, subst, is_some, ◌∙◌}
use Rattle.std.specs.Prelude.{Result, Ok, Err, IsErr}
use Rattle.std.proofs.lemmas.Result.{on_ok_weaker, on_err_weaker}
use Rattle.dsql_engine_laws.specs.driver.Kinds.{is_connect}
use Rattle.dsql_engine_laws.specs.driver.Wires.{WireTold, FleetTold}
use Rattle.dsql_engine_laws.specs.driver.declared.wire.Fleet.{Ghosts}
use Rattle.dsql_engine_laws.specs.journal.declared.entry.Permit.{Permit}
use Rattle.dsql_engine_laws.specs.history.declared.event.Event.{Event}
use Rattle.dsql_engine_laws.specs.history.Legal.{Legal}
use Rattle.dsql_engine_laws.specs.wire.Calling.{WantsConnect}
use Rattle.dsql_engine_laws.specs.wire.Journaled.{Journaled}
use Rattle.dsql_player_wires.specs.Asked.{LacksMemory}
use Rattle.dsql_player_wires.specs.Made.{Made}
use Rattle.dsql_player_wires.specs.Stopped.{HearsAtMost, MayCome, RecordsAtMost, WantedMemory}
use Rattle.dsql_player_wires.specs.Told.{FleetTells, SameAbility, fleet_told}
use Rattle.dsql_player_wires.specs.WiresFit.{KeepsFit, KeepsPlans, SameWires, WiresFit, slot}
use Rattle.dsql_player_wires.proofs.Stopped.{call_lacking, connect_lacking, fleet_unasked, nothing_came, stops_after}
use Rattle.dsql_player_wires.proofs.Staying.{none_changed}
use Rattle.dsql_player_wires.proofs.Telling.{tells_none, tells_then}
use Rattle.dsql_player.specs.declared.halt.Halt.{Halt}
use Rattle.dsql_player.specs.Carried.{HearsNothing, KeepsRun, KeepsRunPlanning, KeepsWires}
use Rattle.dsql_player.specs.Playing.{Playing, IsReady}
use Rattle.dsql_player.proofs.Fitting.{plans_unheard}

pub able_same : {F W : Type 0} (fleet : Ghosts F W) (now : F) → SameAbility fleet now now
able_same fleet now = record { ability = refl; preferred = refl }

pub able_then : {F W : Type 0} (fleet : Ghosts F W) (before between after : F) → SameAbility fleet before between → SameAbility fleet between after → SameAbility fleet before after
able_then fleet before between after a b = record { ability = b.ability ∙ a.ability; preferred = b.preferred ∙ a.preferred }

-- If a part was carried out and another part follows it, both together keep the run.
pub run_then : {A F W : Type 0} (plans : List Made) (fleet : Ghosts F W) (heard : W → Option WireTold) (result : Result A Halt) (before between after : F) (old mid new : Playing) (slots halfway now : List (Option (Journaled W)))
    → FleetTells heard plans (fleet.told before) (fleet.told between) old.past mid.past slots halfway → SameAbility fleet before between → KeepsRun fleet heard result between after mid new halfway now
    → KeepsRunPlanning plans fleet heard result before after old new slots now
run_then plans fleet heard result before between after old mid new slots halfway now told able r = record {
  ready = r.ready;
  told = on_ok_weaker result (λ t. tells_then heard plans (fleet.told before) (fleet.told between) (fleet.told after) old.past mid.past new.past slots halfway now told t) r.told;
  asked = on_err_weaker result (λ t. stops_after heard plans (fleet.told before) (fleet.told between) (fleet.told after) old.past mid.past new.past slots halfway now told t) r.asked;
  wires = r.wires;
  able = able_then fleet before between after able r.able;
  legal = r.legal;
}

-- A part keeps the run too if it follows a part in which nothing is heard and the fleet has nothing to record.
pub run_after : {A F W : Type 0} (fleet : Ghosts F W) (heard : W → Option WireTold) (result : Result A Halt) (before after : F) (old mid new : Playing) (slots now : List (Option (Journaled W)))
    → HearsNothing old.past mid.past → KeepsRun fleet heard result before after mid new slots now → KeepsRun fleet heard result before after old new slots now
run_after fleet heard result before after old mid new slots now same r =
    run_then [] fleet heard result before before after old mid new slots slots now
    (tells_none heard (fleet.told before) old.past mid.past slots slots same.told (plans_unheard heard old.past mid.past slots same)) (able_same fleet before) r

-- A part that has to stop keeps the run if the wires and the fleet record at most one answer or want more.
pub run_stops : {A F W : Type 0} (plans : List Made) (fleet : Ghosts F W) (heard : W → Option WireTold) (result : Result A Halt) (before after : F) (old new : Playing) (slots now : List (Option (Journaled W)))
    → IsErr result → RecordsAtMost heard plans (fleet.told before) (fleet.told after) old.past new.past slots now → SameAbility fleet before after → Legal new.past
    → KeepsRunPlanning plans fleet heard result before after old new slots now
run_stops plans fleet heard (Ok x) before after old new slots now err told able legal = absurd cc
run_stops plans fleet heard (Err e) before after old new slots now err told able legal = record { ready = tt; told = tt; asked = told; wires = tt; able = able; legal = legal }

-- The same of a part whose history is the old one.
pub run_stops_there : {A F W : Type 0} (plans : List Made) (fleet : Ghosts F W) (heard : W → Option WireTold) (result : Result A Halt) (before after : F) (old new : Playing) (slots now : List (Option (Journaled W)))
    → IsErr result → new.past ≡ old.past → RecordsAtMost heard plans (fleet.told before) (fleet.told after) old.past old.past slots now → SameAbility fleet before after → Legal new.past
    → KeepsRunPlanning plans fleet heard result before after old new slots now
run_stops_there plans fleet heard result before after old new slots now err same told able legal =
    run_stops plans fleet heard result before after old new slots now err (subst (λ (H : List Event). RecordsAtMost heard plans (fleet.told before) (fleet.told after) old.past H slots now) (sym same) told) able legal

-- A part that has to stop and asks the fleet for nothing keeps the run if the wires have at most one answer or want.
pub run_stops_on : {A F W : Type 0} (fleet : Ghosts F W) (heard : W → Option WireTold) (result : Result A Halt) (at : F) (old new : Playing) (slots now : List (Option (Journaled W)))
    → IsErr result → WiresFit heard (is_some (fleet.told at)) old.past slots → HearsAtMost heard old.past new.past slots now → Legal new.past → KeepsRun fleet heard result at at old new slots now
run_stops_on fleet heard result at old new slots now err fit hears legal =
    run_stops [] fleet heard result at at old new slots now err (fleet_unasked heard (fleet.told at) old.past new.past slots now fit hears) (able_same fleet at) legal

-- A part that has to stop before anything was done keeps the run. All wires are as they were, and the fleet records what
-- it recorded.
pub run_unasked : {A F W : Type 0} (plans : List Made) (fleet : Ghosts F W) (heard : W → Option WireTold) (result : Result A Halt) (before after : F) (old new : Playing) (slots now : List (Option (Journaled W)))
    → IsErr result → WiresFit heard (is_some (fleet.told before)) old.past slots → new.past ≡ old.past → fleet.told after ≡ fleet.told before → SameWires heard slots now → SameAbility fleet before after → Legal new.past
    → KeepsRunPlanning plans fleet heard result before after old new slots now
run_unasked plans fleet heard result before after old new slots now err fit still same wires able legal =
    run_stops_there plans fleet heard result before after old new slots now err still
    (subst (λ (told : Option FleetTold). RecordsAtMost heard plans (fleet.told before) told old.past old.past slots now) (sym same)
    (nothing_came heard plans (fleet.told before) old.past slots now fit wires))
    able legal

-- So does a part with the same wires and the same fleet.
pub run_stays : {A F W : Type 0} (plans : List Made) (fleet : Ghosts F W) (heard : W → Option WireTold) (result : Result A Halt) (at : F) (old new : Playing) (slots : List (Option (Journaled W)))
    → IsErr result → WiresFit heard (is_some (fleet.told at)) old.past slots → new.past ≡ old.past → Legal new.past → KeepsRunPlanning plans fleet heard result at at old new slots slots
run_stays plans fleet heard result at old new slots err fit still legal =
    run_unasked plans fleet heard result at at old new slots slots err fit still refl (none_changed heard slots slots (λ c. refl)) (able_same fleet at) legal

-- So does a part in which memory was wanting for a call on a wire.
pub run_lacks : {A F W : Type 0} (fleet : Ghosts F W) (heard : W → Option WireTold) (result : Result A Halt) (at : F) (permit : Permit) (p : Playing) (slots now : List (Option (Journaled W)))
    → IsErr result → WiresFit heard (is_some (fleet.told at)) p.past slots → LacksMemory heard permit slots now → is_connect permit.call ≡ false → MayCome p.past (WantedMemory permit) → Legal p.past
    → KeepsRun fleet heard result at at p p slots now
run_lacks fleet heard result at permit p slots now err fit lacks opens due legal =
    run_stops_on fleet heard result at p p slots now err fit (call_lacking heard (is_some (fleet.told at)) permit p.past slots now fit lacks opens due) legal

-- So does a part in which memory was wanting for a Connect.
pub run_unconnected : {A F W : Type 0} (fleet : Ghosts F W) (heard : W → Option WireTold) (result : Result A Halt) (before after : F) (permit : Permit) (p : Playing) (slots now : List (Option (Journaled W)))
    → IsErr result → WiresFit heard (is_some (fleet.told before)) p.past slots → ((c : ℕ) → slot now c ≡ slot slots c) → WantsConnect permit.conn (fleet.told before) (fleet.told after)
    → is_connect permit.call ≡ true → MayCome p.past (WantedMemory permit) → SameAbility fleet before after → Legal p.past → KeepsRun fleet heard result before after p p slots now
run_unconnected fleet heard result before after permit p slots now err fit same wants opens due able legal =
    run_stops [] fleet heard result before after p p slots now err
    (connect_lacking heard permit p.past slots now (fleet.told before) (fleet.told after) fit same wants opens due)
    able legal

-- If the fleet has nothing to record, only the wires need to fit.

pub run_goes : {A F W : Type 0} (fleet : Ghosts F W) (heard : W → Option WireTold) (x : A) (at : F) (old new : Playing) (before after : List (Option (Journaled W)))
    → WiresFit heard (is_some (fleet.told at)) old.past before → IsReady new → KeepsFit heard old.past new.past before after → KeepsPlans heard old.past new.past before after
    → ((made : List Made) → fleet_told made new.past ≡ fleet_told made old.past) → Legal new.past → KeepsRun fleet heard (Ok x) at at old new before after
run_goes fleet heard x at old new before after fit ready keeps plans same legal = record {
  ready = ready;
  told = tells_none heard (fleet.told at) old.past new.past before after same plans;
  asked = tt;
  wires = keeps (is_some (fleet.told at)) fit;
  able = able_same fleet at;
  legal = legal;
}

pub run_of_wires : {A F W : Type 0} (fleet : Ghosts F W) (heard : W → Option WireTold) (result : Result A Halt) (at : F) (old new : Playing) (before after : List (Option (Journaled W)))
    → WiresFit heard (is_some (fleet.told at)) old.past before → KeepsWires heard result old new before after → KeepsRun fleet heard result at at old new before after
run_of_wires fleet heard (Ok x) at old new before after fit k = run_goes fleet heard x at old new before after fit k.ready k.wires k.plans k.told k.legal
run_of_wires fleet heard (Err e) at old new before after fit k = run_stops_on fleet heard (Err e) at old new before after refl fit k.stops k.legal
