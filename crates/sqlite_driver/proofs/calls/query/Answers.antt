use Rattle.std.proofs.Common.{ap, sym, ◌∙◌}
use Rattle.std.proofs.lemmas.Bool.{false≢true}
use Rattle.dsql_driver.specs.declared.wire.Answered.{Answered}
use Rattle.sqlite_driver.proofs.calls.query.Goals as goal

pub returns-in-Ok-open-clause-queries : goal.returns-in-Ok-open-clause-queries
returns-in-Ok-open-clause-queries c = λ succeeded. record {
  text = c.in-Some.text.now;
  set = c.in-Ok.set;
  text_is = sym c.in-Some.ensures;
  answer_is = ap (λ (a : Answered). a.answer) c.in-Ok-open.ensures.served.copies;
  after_is = c.in-Ok-open.ensures.served.changed;
  finds = c.in-Ok.ensures.finds;
}

pub returns-in-Err-clause-queries : goal.returns-in-Err-clause-queries
returns-in-Err-clause-queries c = λ succeeded. absurd (false≢true (sym succeeded ∙ c.answer_or.ensures.passes))
