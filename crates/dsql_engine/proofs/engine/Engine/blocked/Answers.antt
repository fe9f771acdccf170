use Rattle.std.proofs.Common.{◌≡◌, true, Bool, cond, None, ℕ, sym, ap, subst, ◌∙◌}
use Rattle.dsql_engine_hearing.specs.history.Readers.Calls.{is_busy}
use Rattle.dsql_engine_hearing.specs.history.Readers.Unfinished.{is_unfinished}
use Rattle.dsql_engine_hearing.specs.desk.Desk.{past}
use Rattle.dsql_engine.specs.Core.{Core, blocked_call, blocked_for}
use Rattle.dsql_engine_hearing.specs.history.Readers.Clients.{call_of}
use Rattle.dsql_engine.proofs.Busy.{busy_unfinished}
use Rattle.dsql_engine.proofs.engine.Engine.blocked.Goals as goal

pub blocked_call-requires-clause-unfinished : goal.blocked_call-requires-clause-unfinished
blocked_call-requires-clause-unfinished c =
    let H = past c.self.inside.desk in
    let busy : is_busy c.args.client H ≡ true = sym c.is_busy.ensures ∙ c.if-is_busy.true in
    subst (λ n. is_unfinished H n ≡ true) (sym c.call_of.ensures) (busy_unfinished H c.args.client busy)

pub returns-then-is_busy : goal.returns-then-is_busy
returns-then-is_busy c =
    let H = past c.self.inside.desk in
    let fs = c.self.inside.flights.flights in
    let busy : is_busy c.args.client H ≡ true = sym c.is_busy.ensures ∙ c.if-is_busy.true in
    subst (λ (v : Core). c.blocked_call.result ≡ blocked_for v c.args.client) c.self.view_is
    (c.blocked_call.ensures ∙ (ap (λ (k : ℕ). blocked_call H fs k) c.call_of.ensures ∙ sym (ap (λ (b : Bool). cond b (blocked_call H fs (call_of H c.args.client)) None) busy)))
