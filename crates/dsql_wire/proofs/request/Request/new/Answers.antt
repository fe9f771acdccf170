use Rattle.std.proofs.Common.{◌≡◌, true, false, ◌∙◌}
use native.Mathlib.Omega.{arith}
use Rattle.dsql_wire.proofs.Opens.{may_begin, no_begin}
use Rattle.dsql_wire.proofs.request.Request.new.Goals as goal

pub returns-then-not-may_send-clause-stray : goal.returns-then-not-may_send-clause-stray
returns-then-not-may_send-clause-stray c = λ stray.
    let refused : c.may_send.result ≡ false = grind (arith, c.if-not-may_send.true) in
    no_begin c.new-journal.result c.args.permit c.may_send.result c.new-journal.ensures.conn c.new-journal.ensures.journal c.may_send.ensures refused

pub invariant_of-result : goal.invariant_of-result
invariant_of-result c =
    let allowed : c.may_send.result ≡ true = grind (arith, c.if-not-may_send.false) in
    record {
      conn = c.in-Ok.ensures.conn ∙ c.new-journal.ensures.conn;
      nothing = c.in-Ok.ensures.journal ∙ c.new-journal.ensures.journal;
      room = c.in-Ok.ensures.room;
      may = may_begin c.new-journal.result c.args.permit c.may_send.result c.new-journal.ensures.conn c.new-journal.ensures.journal c.may_send.ensures allowed;
    }

pub returns-in-Ok-clause-ok : goal.returns-in-Ok-clause-ok
returns-in-Ok-clause-ok c =
    let allowed : c.may_send.result ≡ true = grind (arith, c.if-not-may_send.false) in
    may_begin c.new-journal.result c.args.permit c.may_send.result c.new-journal.ensures.conn c.new-journal.ensures.journal c.may_send.ensures allowed

pub returns-in-Err-clause-memory : goal.returns-in-Err-clause-memory
returns-in-Err-clause-memory c = λ memory.
    let allowed : c.may_send.result ≡ true = grind (arith, c.if-not-may_send.false) in
    may_begin c.new-journal.result c.args.permit c.may_send.result c.new-journal.ensures.conn c.new-journal.ensures.journal c.may_send.ensures allowed
