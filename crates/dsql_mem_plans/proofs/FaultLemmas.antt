-- A planned fault leaves handles and cursors as they were, whatever the call. The argument is by cases.
use Rattle.std.proofs.Common.{◌≡◌, ℕ, List, false, Option, Some, None, option_and_then, sym, ap, refl, inl}
use Rattle.std.proofs.lemmas.Option.{none-some}
use Rattle.dsql_driver.specs.Fits.{is_memory}
use Rattle.dsql_driver.specs.Wires.{LiveCursor, KeepsHandles, KeepsCursors}
use Rattle.dsql_driver.specs.declared.answer.DriverAnswer.{DriverAnswer}
use Rattle.dsql_driver.specs.declared.answer.DriverAnswer.TheVariants as answers
use Rattle.dsql_driver.specs.declared.call.DriverCall.{DriverCall}
use Rattle.dsql_driver.specs.declared.call.DriverCall.TheVariants.{Connect, CloseStmt, CloseRows}
use Rattle.dsql_driver.specs.declared.wire.Planned.{Planned}
use Rattle.dsql_driver.specs.declared.wire.Planned.TheVariants.{Bad, Fail, Invalid}
use Rattle.dsql_mem_plans.specs.Plans.{answer_planned, fault_for}

-- A planned fault isn't Memory.
pub fault-answered : (what : Planned) → is_memory (answer_planned what) ≡ false
fault-answered Bad = refl
fault-answered (Fail text) = refl
fault-answered Invalid = refl

-- A fault that was planned in place of a Connect isn't Memory.
pub connect-answered : (what : Option Planned) (answer : DriverAnswer) → option_and_then (fault_for Connect) what ≡ Some answer → is_memory answer ≡ false
connect-answered None answer h = absurd (none-some answer h)
connect-answered (Some Bad) answer h = let is : answers.Bad ≡ answer = cc in ap is_memory (sym is)
connect-answered (Some (Fail text)) answer h = let is : answers.Fail text ≡ answer = cc in ap is_memory (sym is)
connect-answered (Some Invalid) answer h = absurd (none-some answer h)

-- The live handles stay after a planned fault.
pub fault-handles : (call : DriverCall) (what : Planned) (handles : List ℕ) → KeepsHandles call (answer_planned what) handles handles
fault-handles (CloseStmt handle) Bad handles = inl refl
fault-handles (CloseStmt handle) (Fail text) handles = inl refl
fault-handles (CloseStmt handle) Invalid handles = inl refl
fault-handles call Bad handles = refl
fault-handles call (Fail text) handles = refl
fault-handles call Invalid handles = refl

-- The live cursors stay after a planned fault.
pub fault-cursors : (call : DriverCall) (what : Planned) (cursors : List LiveCursor) → KeepsCursors call (answer_planned what) cursors cursors
fault-cursors (CloseRows rows) Bad cursors = inl refl
fault-cursors (CloseRows rows) (Fail text) cursors = inl refl
fault-cursors (CloseRows rows) Invalid cursors = inl refl
fault-cursors call Bad cursors = refl
fault-cursors call (Fail text) cursors = refl
fault-cursors call Invalid cursors = refl
