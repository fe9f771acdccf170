-- Worked plans: the answers of wires for which faults are planned.
use Rattle.std.specs.Prelude.{◌≡◌, List, [], ◌∷◌, map, Some, None, codes}
use Rattle.dsql_driver.specs.Wires.{Plan, WirePlan, WirePlanMade}
use Rattle.dsql_driver.specs.declared.answer.DriverAnswer.{DriverAnswer}
use Rattle.dsql_driver.specs.declared.answer.DriverAnswer.TheVariants as answers
use Rattle.dsql_driver.specs.declared.call.DriverCall.{DriverCall}
use Rattle.dsql_driver.specs.declared.call.DriverCall.TheVariants.{Valid, Ping, Next, Commit, Rollback}
use Rattle.dsql_driver.specs.declared.wire.Planned.TheVariants.{Bad, Fail, Invalid}
use Rattle.dsql_mem_store.specs.Entries.{Entries}
use Rattle.dsql_mem.specs.Wire.{WireState, new_wire, after_call, after_plan, after_want, comes_of}
use Rattle.dsql_mem_plans.specs.Fleets.{FleetState, new_fleet, planned_for, connect_fault}
use Rattle.dsql_mem.specs.Worked.{affected, ask, tell, begin}

-- Returns the answers to calls on a wire, one after the other.
abbrev pub answers_on : Entries → WireState → List DriverCall → List DriverAnswer
answers_on store wire [] = []
answers_on store wire (call ∷ calls) = let after = comes_of store wire call in
    after.answer ∷ answers_on after.store (after_call store wire call) calls

-- Returns the answers to calls on an empty map and a new wire that has these plans.
abbrev pub answers_with : List Plan → List DriverCall → List DriverAnswer
answers_with plans calls = answers_on [] (new_wire 1 plans) calls

-- Returns a plan that was made before any Connect.
abbrev pub made_first : WirePlan → WirePlanMade
made_first plan = (0, plan)

-- Returns a fleet on which these faults were planned before any Connect.
abbrev pub fleet_with : List WirePlan → FleetState
fleet_with plans = record new_fleet { told = record new_fleet.told { plans = map made_first plans } }

pub record WorkedPlans : Type 0 where
  -- A fault stands in the place of one call, and the call after it is carried out.
  pub bad : answers_with ((3, Bad) ∷ []) (Ping ∷ Ping ∷ Ping ∷ []) ≡ answers.Done ∷ answers.Bad ∷ answers.Done ∷ []
  pub fail : answers_with ((2, Fail (codes "no")) ∷ []) (Ping ∷ Ping ∷ [])
      ≡ answers.Fail (codes "no") ∷ answers.Done ∷ []
  pub invalid : answers_with ((2, Invalid) ∷ []) (Valid ∷ Valid ∷ []) ≡ answers.Invalid ∷ answers.Done ∷ []
  -- A fault that doesn't fit its call is ignored.
  pub bad_test : answers_with ((2, Bad) ∷ []) (Valid ∷ Ping ∷ []) ≡ answers.Done ∷ answers.Done ∷ []
  pub failed_test : answers_with ((2, Fail (codes "no")) ∷ []) (Valid ∷ []) ≡ answers.Done ∷ []
  pub invalid_ping : answers_with ((2, Invalid) ∷ []) (Ping ∷ Valid ∷ []) ≡ answers.Done ∷ answers.Done ∷ []
  -- A later plan replaces an earlier one, whether it fits or not.
  pub replaced : answers_with ((2, Bad) ∷ (2, Fail (codes "no")) ∷ []) (Ping ∷ []) ≡ answers.Fail (codes "no") ∷ []
  pub unfit : answers_with ((2, Bad) ∷ (2, Invalid) ∷ []) (Ping ∷ []) ≡ answers.Done ∷ []
  -- A plan on a wire replaces what its fleet planned for it.
  pub replaced_on_wire : answers_on [] (after_plan (2, Bad) (new_wire 1 ((2, Fail (codes "no")) ∷ []))) (Ping ∷ [])
      ≡ answers.Bad ∷ []
  -- The report places a plan after the calls that were heard by then. A plan for a call that is over has no
  -- effect.
  pub told_behind : (after_plan (2, Bad) (after_call [] (new_wire 1 []) Ping)).told.plans ≡ (2, (2, Bad)) ∷ []
  pub too_late : answers_on [] (after_plan (2, Bad) (after_call [] (new_wire 1 []) Ping)) (Ping ∷ [])
      ≡ answers.Done ∷ []
  -- A call that was answered Memory isn't counted, so a fault for the next call still stands in its place.
  pub wanted : answers_on [] (after_want Ping (new_wire 1 ((2, Bad) ∷ []))) (Ping ∷ []) ≡ answers.Bad ∷ []
  -- A call whose place a fault takes writes nothing.
  pub not_written :
      answers_with ((2, Bad) ∷ []) (tell (codes "SET a 1") ∷ ask (codes "GET a") ∷ Next 1 ∷ [])
      ≡ answers.Bad ∷ answers.Cursor 1 (codes "value" ∷ []) ∷ answers.End ∷ []
  -- A Commit that a planned fault replaces leaves the transaction open.
  pub still_open :
      answers_with ((4, Bad) ∷ []) (begin ∷ tell (codes "SET a 1") ∷ Commit ∷ Rollback ∷ ask
      (codes "GET a") ∷ Next 1 ∷ [])
      ≡ answers.Done ∷ affected 1 ∷ answers.Bad ∷ answers.Done ∷ answers.Cursor 1
      (codes "value" ∷ []) ∷ answers.End ∷ []
  -- A fault that fits refuses a Connect. Plans for another wire or another call don't.
  pub refused : connect_fault 2 (fleet_with ((2, (1, Bad)) ∷ [])) ≡ Some answers.Bad
  pub failed : connect_fault 2 (fleet_with ((2, (1, Bad)) ∷ (2, (1, Fail (codes "no"))) ∷ []))
      ≡ Some (answers.Fail (codes "no"))
  pub invalid_connect : connect_fault 2 (fleet_with ((2, (1, Invalid)) ∷ [])) ≡ None
  pub other_wire : connect_fault 2 (fleet_with ((3, (1, Bad)) ∷ (2, (2, Bad)) ∷ [])) ≡ None
  -- A wire takes its own plans with it, oldest first.
  pub taken : planned_for 2 (fleet_with ((2, (3, Bad)) ∷ (3, (1, Bad)) ∷ (2, (2, Invalid)) ∷ []))
      ≡ (3, Bad) ∷ (2, Invalid) ∷ []
