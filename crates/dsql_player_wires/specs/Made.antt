-- What wires and a fleet record beside the calls that were heard: plans and wants. A plan is a fault that a line of a
-- script planned. A want is a call that was answered Memory. A list of them is newest first. The records have them
-- oldest first.
use Rattle.std.specs.Prelude.{ℕ, ◌==◌, cond, List, [], ◌∷◌, ◌++◌}
use Rattle.dsql_history.specs.driver.Wires.{PlanMade, WirePlanMade, WireTold}
use Rattle.dsql_history.specs.driver.declared.call.DriverCall.{DriverCall}

-- A plan or a want. A fault is planned on the wire of its connection if it has one then, and ahead with the fleet
-- otherwise. The fleet answers Connects, and each wire the other calls of its connection.
pub data Made : Type 0 where
  PlannedOn : ℕ → PlanMade → Made
  PlannedAhead : WirePlanMade → Made
  WantedOn : ℕ → DriverCall → Made
  WantedConnect : ℕ → Made

-- Returns the faults that were planned on the wire of connection c.
abbrev pub plans_on : List Made → ℕ → List PlanMade
plans_on [] c = []
plans_on (PlannedOn conn plan ∷ earlier) c = cond (conn == c) (plans_on earlier c ++ plan ∷ []) (plans_on earlier c)
plans_on (_ ∷ earlier) c = plans_on earlier c

-- Returns the calls that the wire of connection c answered Memory.
abbrev pub wants_on : List Made → ℕ → List DriverCall
wants_on [] c = []
wants_on (WantedOn conn call ∷ earlier) c = cond (conn == c) (wants_on earlier c ++ call ∷ []) (wants_on earlier c)
wants_on (_ ∷ earlier) c = wants_on earlier c

-- Returns the faults that were planned with the fleet.
abbrev pub fleet_plans : List Made → List WirePlanMade
fleet_plans [] = []
fleet_plans (PlannedAhead plan ∷ earlier) = fleet_plans earlier ++ plan ∷ []
fleet_plans (_ ∷ earlier) = fleet_plans earlier

-- Returns the numbers of the connections whose Connect the fleet answered Memory.
abbrev pub fleet_wants : List Made → List ℕ
fleet_wants [] = []
fleet_wants (WantedConnect conn ∷ earlier) = fleet_wants earlier ++ conn ∷ []
fleet_wants (_ ∷ earlier) = fleet_wants earlier

-- What a wire records beside the calls that it heard: its plans and wants.
pub record Aside : Type 0 where
  pub plans : List PlanMade
  pub wanted : List DriverCall

abbrev pub no_aside : Aside
no_aside = record { plans = []; wanted = [] }

-- Returns the plans and wants of a wire's record.
abbrev pub aside_of : WireTold → Aside
aside_of told = record { plans = told.plans; wanted = told.wanted }

-- Returns the plans and wants of the wire of connection c.
abbrev pub aside_on : List Made → ℕ → Aside
aside_on made c = record { plans = plans_on made c; wanted = wants_on made c }
