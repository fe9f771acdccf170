use Rattle.std.proofs.Common.{◌≡◌, true, false, sym, ◌∙◌, subst}
use native.Mathlib.Omega.{arith}
use Rattle.dsql_wire.specs.Journaled.{MayBeSent, Journaled, keeping}
use Rattle.dsql_wire.proofs.Calling.{refused, failed}
use Rattle.dsql_wire.proofs.wire.JournaledWire.perform.Goals as goal
use Rattle.dsql_wire.proofs.wire.JournaledWire.perform.Goals.{in-Prepare-1, in-Exec-1, in-Query-1, in-Connect-1}

pub returns-then-not-may_send : goal.returns-then-not-may_send
returns-then-not-may_send g c =
    refused _ _ _ _ (λ may.
    let no : c.may_send.result ≡ false = grind (arith, c.if-not-may_send.true) in
    let yes : c.may_send.result ≡ true = c.may_send.ensures.1 (subst (λ (j : Journaled _). MayBeSent j.conn j.journal c.args.permit) (sym c.self.view_is) may) in
    let clash : true ≡ false = sym yes ∙ no in
    cc)

pub returns-in-Err : goal.returns-in-Err
returns-in-Err g c =
    let same : c.match-noted.self ≡ keeping c.call.new.self = elim c.match-noted.branch [ in-Prepare-1 w ↦ w.self-is | in-Exec-1 w ↦ w.self-is | in-Query-1 w ↦ w.self-is | in-Connect-1 w ↦ w.self-is ] in
    rw same (failed _ _ _ _ _ _ _ _ c.self.view_is c.in-Err.ensures.calls)
