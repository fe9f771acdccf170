use Rattle.std.proofs.Common.{◌≡◌, not, ◌∙◌, ap, rules}
use Rattle.std.proofs.lemmas.Fn.{filter_same}
use Rattle.dsql_wait.specs.Requests.{Queue, is_of, are_distinct, without_token}
use Rattle.dsql_wait.proofs.Queues.{some_distinct}
use Rattle.dsql_wait.proofs.waiting.Waiting.leave_all_of.Goals as goal

pub returns-clause-others : goal.returns-clause-others
returns-clause-others c =
    filter_same _ _ _ (λ x b f' k. search rules) _ _ c.retain.ensures.filtered
    ∙ ap (λ (w : Queue). without_token c.args.token.now w.requests) c.self.view_is

pub invariant_of-self : goal.invariant_of-self
invariant_of-self c =
    let others : c.retain.new.self.items ≡ without_token c.args.token.now c.self.inside.queue.items = filter_same _ _ _ (λ x b f' k. search rules) _ _ c.retain.ensures.filtered in
    ap are_distinct others ∙ some_distinct (λ r. not (is_of c.args.token.now r)) c.self.inside.queue.items c.self.invariant
