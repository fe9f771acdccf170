use Rattle.std.proofs.Common.{◌≡◌, true, cond, None, sym, ap, ◌∙◌}
use Rattle.dsql_laws_calls.specs.course.declared.course.Wish.TheVariants as wishes
use Rattle.dsql_engine_desk.specs.Desk.{past}
use Rattle.dsql_laws_calls.specs.history.Readers.HandedOut.{are_over}
use Rattle.dsql_laws_calls.specs.history.Rules.Sent.{line_of}
use Rattle.dsql_engine_desk.proofs.desk.Desk.close_due.Goals as goal

pub returns-then-are_over : goal.returns-then-are_over
returns-then-are_over c asked =
    let H = past c.args.self.now in
    let over : are_over H c.args.call ≡ true = sym c.are_over.ensures ∙ c.if-are_over.true in
    c.next_over.ensures asked (λ nothing. absurd cc) ∙ sym (ap (λ b. cond b (line_of H c.args.call wishes.Close) None) over)
