use Rattle.std.proofs.Common.{◌≡◌, ◌∙◌, true, false, Option, sym, subst}
use Rattle.dsql_engine_laws.specs.journal.declared.entry.Permit.{Permit}
use Rattle.dsql_engine_laws.specs.history.Rules.Sent.{asked_by}
use Rattle.dsql_engine_laws.specs.exchanged.Filled.{Carries}
use Rattle.dsql_engine_laws.proofs.going.Carried.{chore_carried}
use Rattle.dsql_player.specs.Chores.{FindsChore, IsToMake}
use Rattle.dsql_player.specs.Playing.{Playing}
use Rattle.dsql_player.proofs.Unstated.{chore_unstated}
use Rattle.dsql_player.proofs.player.Player.first_chore.Goals as goal

pub permit-requires : goal.permit-requires
permit-requires c =
    let new = c.first_leave.new.self in
    let leave = c.in-Some.leave in
    let made : IsToMake new leave = subst (λ (chore : Option Permit). FindsChore chore c.args.self.now new) c.in-Some.is c.first_leave.ensures.finds in
    subst (λ (p : Playing). Carries (asked_by p.past leave.call_no) leave.call) (sym c.self.view_is) (chore_carried new.past leave.conn leave made.ready.legal.lawful made.leave (asked_by new.past leave.call_no))

pub unreachable-requires : goal.unreachable-requires
unreachable-requires c =
    let new = c.first_leave.new.self in
    let leave = c.in-Some.leave in
    let made : IsToMake new leave = subst (λ (chore : Option Permit). FindsChore chore c.args.self.now new) c.in-Some.is c.first_leave.ensures.finds in
    let clash : true ≡ false = sym c.in-Err.ensures.err ∙ chore_unstated new.past leave.conn leave made.ready.legal.lawful made.leave in
    absurd cc
