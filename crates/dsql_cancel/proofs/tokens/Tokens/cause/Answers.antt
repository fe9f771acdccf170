use Rattle.std.proofs.Common.{◌∙◌, sym, ap}
use Rattle.dsql_cancel.specs.Registry.{Registry, cause_of}
use Rattle.dsql_cancel.proofs.Search.{cause_at, no_cause_in_gap}
use Rattle.dsql_cancel.proofs.tokens.Tokens.cause.Goals as goal

pub returns-in-Ok-clause-cause : goal.returns-in-Ok-clause-cause
returns-in-Ok-clause-cause c =
    let at = cause_at c.args.name.now c.self.inside.table.items c.self.invariant.in_order c.in-Ok.at (rw c.deref.ensures.value at c.in-Ok.ensures.found) c.index.result.now in
    cc (at, c.index.ensures, ap (λ (r : Registry). cause_of c.args.name.now r.tokens) c.self.view_is)

pub returns-in-Err-clause-cause : goal.returns-in-Err-clause-cause
returns-in-Err-clause-cause c =
    sym (no_cause_in_gap c.args.name.now c.self.inside.table.items c.in-Err.field-0 (rw c.deref.ensures.value at c.in-Err.ensures.absent))
    ∙ ap (λ (r : Registry). cause_of c.args.name.now r.tokens) c.self.view_is
