use Rattle.std.proofs.Common.{◌≡◌, true, false, get_or, arith}
use Rattle.dsql_cancel.specs.Token.{runs_out}
use Rattle.dsql_cancel.proofs.Search.{running_then, running_else, some_runs_out, on_err}
use Rattle.dsql_cancel.proofs.table.names_running_out.Goals as goal
use Rattle.dsql_cancel.proofs.table.names_running_out.Goals.{then-runs_out+in_ok-copy+in_ok-push, else-runs_out}

pub returns-in_err-copy-clause-err : goal.returns-in_err-copy-clause-err
returns-in_err-copy-clause-err c =
    let late : runs_out c.args.now (get_or c.args.table.now c.loop-name.name-index c.loop-name-item.result).1 ≡ true = cc in
    on_err _ (some_runs_out c.args.now c.args.table.now c.loop-name.name-index c.loop-name-item.result (omega arith) late)

pub returns-in_err-push-clause-err : goal.returns-in_err-push-clause-err
returns-in_err-push-clause-err c =
    let late : runs_out c.args.now (get_or c.args.table.now c.loop-name.name-index c.loop-name-item.result).1 ≡ true = cc in
    on_err _ (some_runs_out c.args.now c.args.table.now c.loop-name.name-index c.loop-name-item.result (omega arith) late)

pub loop-name-preserved : goal.loop-name-preserved
loop-name-preserved c =
    elim c.if-runs_out.branch [
      | then-runs_out+in_ok-copy+in_ok-push w ↦
          let late : runs_out c.args.now (get_or c.args.table.now c.loop-name.name-index c.loop-name-item.result).1 ≡ true = cc in
          let more = running_then c.args.now c.args.table.now c.loop-name.name-index c.loop-name-item.result (omega arith) late in
          rw (w.names-is, more) (cc (w.in_ok-push.ensures.items, w.in_ok-copy.ensures))
      | else-runs_out w ↦
          let early : runs_out c.args.now (get_or c.args.table.now c.loop-name.name-index c.loop-name-item.result).1 ≡ false = cc in
          let more = running_else c.args.now c.args.table.now c.loop-name.name-index c.loop-name-item.result (omega arith) early in
          rw (w.names-is, more) c.loop-name.invariant
    ]
