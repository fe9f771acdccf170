-- What wires and fleets report of the calls made of them.
use Rattle.std.specs.Prelude.{ℕ, ◌≡◌, ◌⊎◌, ◌==◌, Bool, true, false, not, ◌||◌, List, [], ◌∷◌, ◌++◌, length, filter, Option, Some, None, option_map, Result, Ok, Err}
use Rattle.std.specs.List.{list_any, list_all}
use Rattle.dsql_driver.specs.Streams.{one_more}
use Rattle.dsql_driver.specs.declared.caps.Caps.{Caps}
use Rattle.dsql_driver.specs.declared.call.DriverCall.{DriverCall}
use Rattle.dsql_driver.specs.declared.call.DriverCall.TheVariants.{Connect, CloseStmt, CloseRows, Next}
use Rattle.dsql_driver.specs.declared.answer.DriverAnswer.{DriverAnswer}
use Rattle.dsql_driver.specs.declared.answer.DriverAnswer.TheVariants.{Done, Prepared, Cursor, Row, Memory}
use Rattle.dsql_driver.specs.declared.answer.DriverAnswer.TheVariants as answers
use Rattle.dsql_driver.specs.declared.wire.Planned.{Planned}
use Rattle.dsql_driver.specs.declared.wire.Refused.{Refused}
use Rattle.dsql_driver.specs.declared.wire.Refused.TheVariants.{Bad, Fail}
use Rattle.dsql_driver.specs.declared.wire.Refused.TheVariants as refusals

-- A call that a wire heard, with its answer.
abbrev pub Told : Type 0
Told = DriverCall × DriverAnswer

-- A live cursor with the number of its columns.
abbrev pub LiveCursor : Type 0
LiveCursor = ℕ × ℕ

-- A fault in place of the answer to the nth call on a wire. The wire's Connect is the first call.
abbrev pub Plan : Type 0
Plan = ℕ × Planned

-- A fault that was planned on a wire, after the number of calls that the wire had heard by then.
abbrev pub PlanMade : Type 0
PlanMade = ℕ × Plan

-- A wire's report: its number, the calls that it heard with their answers, and the faults that were planned on it. The
-- calls that it answered Memory stand apart, as those that wanted memory. Each list stands oldest first.
pub record WireTold : Type 0 where
  pub number : ℕ
  pub calls : List Told
  pub plans : List PlanMade
  pub wanted : List DriverCall

-- A Connect that a fleet heard: the connection's number, with the answer.
abbrev pub Connected : Type 0
Connected = ℕ × DriverAnswer

-- A fault that is planned for the wire with this number.
abbrev pub WirePlan : Type 0
WirePlan = ℕ × Plan

-- A fault that was planned with a fleet, after the number of Connects that the fleet had heard by then.
abbrev pub WirePlanMade : Type 0
WirePlanMade = ℕ × WirePlan

-- A wire that a fleet was given back under this number, with the wire's report.
abbrev pub RetiredWire : Type 0
RetiredWire = ℕ × WireTold

-- A fleet's report: the Connects that it heard with their answers, the faults that were planned, and the wires that it
-- was given back. The numbers of the Connects that it answered Memory stand apart, as those that wanted memory. Each
-- list stands oldest first.
pub record FleetTold : Type 0 where
  pub connects : List Connected
  pub plans : List WirePlanMade
  pub retired : List RetiredWire
  pub wanted : List ℕ

-- The capabilities that a fleet was asked for last, and how often it was asked. The count stays at its largest
-- value after reaching it.
pub record Preferred : Type 0 where
  pub last : Option Caps
  pub times : ℕ

-- Returns the report of a new wire.
abbrev pub newly_told : ℕ → WireTold
newly_told number = record { number = number; calls = (Connect, Done) ∷ []; plans = []; wanted = [] }

abbrev pub with_call : Told → WireTold → WireTold
with_call call told = record told { calls = told.calls ++ call ∷ [] }

-- Returns a wire's report with one more call that wanted memory.
abbrev pub with_wanted : DriverCall → WireTold → WireTold
with_wanted call told = record told { wanted = told.wanted ++ call ∷ [] }

-- Returns a wire's report after one more call. A call that is answered Memory isn't heard. It stands among those that
-- wanted memory.
abbrev pub told_after : DriverCall → DriverAnswer → Option WireTold → Option WireTold
told_after call Memory told = option_map (with_wanted call) told
told_after call answer told = option_map (with_call (call, answer)) told

-- Returns a wire's report with one more planned fault, placed after the calls that were heard so far.
abbrev pub with_plan : Plan → WireTold → WireTold
with_plan plan told = record told { plans = told.plans ++ (length told.calls, plan) ∷ [] }

-- Returns a wire's report after one more fault was planned on it.
abbrev pub planned_after : Plan → Option WireTold → Option WireTold
planned_after plan told = option_map (with_plan plan) told

-- Returns the answer that a fleet gives to a Connect.
abbrev pub answer_of : {W : Type 0} → Result W Refused → DriverAnswer
answer_of (Ok wire) = Done
answer_of (Err Bad) = answers.Bad
answer_of (Err (Fail text)) = answers.Fail text
answer_of (Err refusals.Memory) = Memory

abbrev pub with_connects : List Connected → FleetTold → FleetTold
with_connects more told = record told { connects = told.connects ++ more }

-- Returns a fleet's report with one more Connect that wanted memory.
abbrev pub with_wanted_connect : ℕ → FleetTold → FleetTold
with_wanted_connect number told = record told { wanted = told.wanted ++ number ∷ [] }

-- Returns a fleet's report after one more Connect. A Connect that is answered Memory isn't heard. Its number stands
-- among those that wanted memory.
abbrev pub connected_after : ℕ → DriverAnswer → Option FleetTold → Option FleetTold
connected_after number Memory told = option_map (with_wanted_connect number) told
connected_after number answer told = option_map (with_connects ((number, answer) ∷ [])) told

-- Returns a fleet's report with one more planned fault, placed after the Connects that were heard so far.
abbrev pub with_wire_plan : WirePlan → FleetTold → FleetTold
with_wire_plan plan told = record told { plans = told.plans ++ (length told.connects, plan) ∷ [] }

-- Returns a fleet's report after one more fault was planned.
abbrev pub plans_after : WirePlan → Option FleetTold → Option FleetTold
plans_after plan told = option_map (with_wire_plan plan) told

abbrev pub with_retired : List RetiredWire → FleetTold → FleetTold
with_retired more told = record told { retired = told.retired ++ more }

-- Returns a fleet's report after one more wire was given back.
abbrev pub retired_after : ℕ → Option WireTold → Option FleetTold → Option FleetTold
retired_after number (Some wire) (Some told) = Some (with_retired ((number, wire) ∷ []) told)
retired_after number _ _ = None

-- Returns the last capabilities asked for, and how often a fleet was asked, after it was asked for these.
abbrev pub preferred_after : Caps → Preferred → Preferred
preferred_after caps before = record { last = Some caps; times = one_more before.times }

abbrev pub has_number : ℕ → List ℕ → Bool
has_number n ns = list_any (λ m. m == n) ns

-- Holds if these are the live handles after a call. A Prepared adds one that wasn't live. A CloseStmt may take
-- out the one that it names.
abbrev pub KeepsHandles : DriverCall → DriverAnswer → List ℕ → List ℕ → Type 0
KeepsHandles call Memory before after = after ≡ before
KeepsHandles call (Prepared handle inputs) before after = (after ≡ handle ∷ before) × (has_number handle before ≡ false)
KeepsHandles (CloseStmt handle) answer before after =
    (after ≡ before) ⊎ (after ≡ filter (λ h. not (h == handle)) before)
KeepsHandles call answer before after = after ≡ before

abbrev pub has_cursor : ℕ → List LiveCursor → Bool
has_cursor rows cursors = list_any (λ c. c.0 == rows) cursors

-- Is true if each live cursor with that number has this many columns.
abbrev pub has_width : ℕ → ℕ → List LiveCursor → Bool
has_width rows width cursors = list_all (λ c. not (c.0 == rows) || (c.1 == width)) cursors

-- Holds if these are the live cursors after a call. A Cursor adds one that wasn't live, with its columns. A
-- CloseRows may take out the one that it names. A Row has as many values as its cursor has columns.
abbrev pub KeepsCursors : DriverCall → DriverAnswer → List LiveCursor → List LiveCursor → Type 0
KeepsCursors call Memory before after = after ≡ before
KeepsCursors call (Cursor rows columns) before after =
    (after ≡ (rows, length columns) ∷ before) × (has_cursor rows before ≡ false)
KeepsCursors (CloseRows rows) answer before after = (after ≡ before) ⊎ (after ≡ filter (λ c. not (c.0 == rows)) before)
KeepsCursors (Next rows) (Row values) before after = (after ≡ before) × (has_width rows (length values) before ≡ true)
KeepsCursors call answer before after = after ≡ before

-- Is true if the refusal is a fault of the fleet.
abbrev pub is_fault_of : Refused → Bool
is_fault_of Bad = true
is_fault_of (Fail text) = true
is_fault_of _ = false
