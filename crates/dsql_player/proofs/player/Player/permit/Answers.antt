use Rattle.std.proofs.Common.{◌∙◌, ap, subst, sym}
use Rattle.dsql_engine_laws.specs.exchanged.Filled.{Carries}
use Rattle.dsql_engine_laws.specs.history.Rules.Sent.{asked_by}
use Rattle.dsql_player_wires.specs.Seats.{seat}
use Rattle.dsql_player.specs.Playing.{Playing}
use Rattle.dsql_player.proofs.Answering.{HasLeave, leave_at}
use Rattle.dsql_player.proofs.Asked.{had_none}
use Rattle.dsql_player.proofs.player.Player.permit.Goals as goal

pub unreachable-requires : goal.unreachable-requires
unreachable-requires c =
    let seen = ap (λ (p : Playing). (seat p.seats c.args.client).permit) c.self.view_is in
    had_none (seat c.args.self.now.seats c.args.client).permit (sym seen ∙ c.leave.ensures.none c.in_default.is) c.requires.leave

pub permit-requires : goal.permit-requires
permit-requires c =
    let old = c.args.self.now in
    let leave = c.in-Some.leave.now in
    let seen = ap (λ (p : Playing). (seat p.seats c.args.client).permit) c.self.view_is in
    let has : HasLeave old c.args.client leave = leave_at old c.args.client leave c.requires.ready (sym seen ∙ c.in-Some.ensures.some) in
    subst (λ (p : Playing). Carries (asked_by p.past leave.call_no) leave.call) (sym c.self.view_is) has.leave.carries
