use Rattle.std.proofs.Common.{rules, ◌≡◌, w64, to_z, of_z, ap, sym, ◌∙◌}
use Rattle.std.proofs.lemmas.Bool.{false≢true}
use Rattle.dsql_driver.specs.declared.wire.Answered.{Answered}
use Rattle.sqlite_driver.proofs.calls.execute.Goals as goal

pub returns-in-Ok-clause-execs : goal.returns-in-Ok-clause-execs
returns-in-Ok-clause-execs c = λ succeeded.
    let last : to_z w64 (of_z w64 c.in-Ok.executed.last) ≡ c.in-Ok.executed.last = search rules in
    let affected : to_z w64 (of_z w64 c.in-Ok.executed.affected) ≡ c.in-Ok.executed.affected = search rules in
    record {
      text = c.in-Some.text.now;
      executed = c.in-Ok.executed;
      text_is = sym c.in-Some.ensures;
      answer_is = rw last at (rw affected at (ap (λ (a : Answered). a.answer) c.copies_of_result.ensures));
      runs = c.in-Ok.ensures.runs;
    }

pub returns-in-Err-clause-execs : goal.returns-in-Err-clause-execs
returns-in-Err-clause-execs c = λ succeeded. absurd (false≢true (sym succeeded ∙ c.answer_or.ensures.passes))
