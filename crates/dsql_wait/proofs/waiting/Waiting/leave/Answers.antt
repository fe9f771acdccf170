-- The request is the only one of its call.
use Rattle.std.proofs.Common.{◌≡◌, ◌<◌, true, not, eqb, length, Option, None, get_or, ap, sym, ◌∙◌, subst}
use Rattle.std.specs.Prelude.{remove, OnSome}
use Rattle.std.proofs.lemmas.List.{get_or_default}
use Rattle.dsql_tenure_journal.specs.declared.entry.Owner.TheVariants.{House}
use Rattle.dsql_wait.specs.declared.request.Request.{Request}
use Rattle.dsql_wait.specs.Requests.{Queue, request_of, are_distinct, without_call}
use Rattle.dsql_wait.proofs.Queues.{found, not_found, taken, some_distinct, at_place}
use Rattle.dsql_wait.proofs.waiting.Waiting.leave.Goals as goal

abbrev any : Request
any = record { call = 0; owner = House; last = true; token = None; asked = 0 }

pub returns-in-Some-clause-left : goal.returns-in-Some-clause-left
returns-in-Some-clause-left c =
    let rs = c.self.inside.queue.items in
    let at = c.in-Some.at in
    let out = get_or rs at any in
    let within = (at_place c.args.call rs at (sym c.in-Some.ensures.place)) in
    c.remove.ensures.succeeds any c.in-Some.ensures.bound
    ∙ (sym (found c.args.call rs at out (sym c.in-Some.ensures.place) (get_or_default rs at any out (subst (λ n. n < length rs) within.1 within.0)))
    ∙ ap (λ (l : Queue). request_of c.args.call l.requests) c.self.view_is)

pub returns-in-Some-clause-others : goal.returns-in-Some-clause-others
returns-in-Some-clause-others c =
    let rs = c.self.inside.queue.items in
    let at = c.in-Some.at in
    let out = c.remove.ensures.succeeds any c.in-Some.ensures.bound in
    subst (λ (o : Option Request). OnSome o (c.remove.new.self.items ≡ remove rs at)) out c.remove.ensures.items
    ∙ (taken c.args.call rs at c.self.invariant (sym c.in-Some.ensures.place)
    ∙ ap (λ (l : Queue). without_call c.args.call l.requests) c.self.view_is)

pub returns-in-None-clause-left : goal.returns-in-None-clause-left
returns-in-None-clause-left c =
    sym ((not_found c.args.call c.self.inside.queue.items (sym c.in-None.ensures.place)).0) ∙ ap (λ (l : Queue). request_of c.args.call l.requests) c.self.view_is

pub returns-in-None-clause-others : goal.returns-in-None-clause-others
returns-in-None-clause-others c =
    let view = ap (λ (l : Queue). l.requests) c.self.view_is in
    sym view ∙ (sym ((not_found c.args.call c.self.inside.queue.items (sym c.in-None.ensures.place)).1) ∙ ap (without_call c.args.call) view)

pub invariant_of-self : goal.invariant_of-self
invariant_of-self c =
    let rs = c.self.inside.queue.items in
    let at = c.in-Some.at in
    let out = c.remove.ensures.succeeds any c.in-Some.ensures.bound in
    ap are_distinct (subst (λ (o : Option Request). OnSome o (c.remove.new.self.items ≡ remove rs at)) out c.remove.ensures.items ∙ taken c.args.call rs at c.self.invariant (sym c.in-Some.ensures.place))
    ∙ some_distinct (λ r. not (eqb r.call c.args.call)) rs c.self.invariant
