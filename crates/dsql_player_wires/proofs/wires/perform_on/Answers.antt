use Rattle.std.proofs.Common.{◌≡◌, ◌∙◌, false, Err, sym, ap}
use Rattle.dsql_history.specs.driver.Fits.{is_memory}
use Rattle.dsql_history.specs.driver.Wires.{told_after}
use Rattle.dsql_history.specs.driver.declared.call.DriverCall.{DriverCall}
use Rattle.dsql_wire.proofs.Answered.{makes}
use Rattle.dsql_wire.proofs.Keeping.{told_heard}
use Rattle.dsql_player_wires.proofs.Permits.{heard_answer, memory_of}
use Rattle.dsql_player_wires.proofs.Wanted.{wire_lacks}
use Rattle.dsql_player_wires.proofs.wires.perform_on.Goals as goal

pub returns-in-Ok-clause-noted : goal.returns-in-Ok-clause-noted
returns-in-Ok-clause-noted g c =
    let e = c.in-Ok.heard in
    let made = makes c.args.permit e.answer e c.in-Ok.ensures.entry in
    let no_want : is_memory e.answer ≡ false = heard_answer c.args.wire.now.journal e c.in-Ok.ensures.fits in
    record {
      conn = c.in-Ok.ensures.conn;
      journal = c.in-Ok.ensures.noted;
      told =
          c.in-Ok.ensures.told
          ∙ ap (λ (q : DriverCall). told_after q e.answer (g.W.Wire.told c.args.wire.now.wire)) (sym made.call)
          ∙ told_heard e.call e.answer (g.W.Wire.told c.args.wire.now.wire) no_want;
    }

pub returns-in-Err-Memory-clause-err : goal.returns-in-Err-Memory-clause-err
returns-in-Err-Memory-clause-err g c =
    let p = c.args.permit in
    let memory = memory_of c.in-Err-Memory.field-0 c.in-Err-Memory.field-0-0 p c.in-Err-Memory.field-0-is c.in-Err-Memory.ensures.handed_back in
    wire_lacks g.W.Wire.told p.call c.args.wire.now c.perform.new.self c.in-Err-Memory.ensures.conn c.in-Err-Memory.ensures.err (c.in-Err-Memory.ensures.wants (ap Err memory))
