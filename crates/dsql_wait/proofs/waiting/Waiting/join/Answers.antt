-- A call that doesn't wait yet joins.
use Rattle.std.proofs.Common.{ap, ◌∙◌}
use Rattle.dsql_wait.specs.Requests.{Queue, waits, are_distinct}
use Rattle.dsql_wait.proofs.Queues.{joined_distinct}
use Rattle.dsql_wait.proofs.waiting.Waiting.join.Goals as goal

pub invariant_of-self-2 : goal.invariant_of-self-2
invariant_of-self-2 c =
    ap are_distinct c.in_ok-push_back.ensures.items
    ∙ joined_distinct c.self.inside.queue.items c.args.request (ap (λ (l : Queue). waits c.args.request.call l.requests) c.self.view_is ∙ c.requires) c.self.invariant
