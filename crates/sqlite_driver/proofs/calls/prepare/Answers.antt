use Rattle.std.proofs.Common.{rules, ap, inl, inr, refl, sym, ◌∙◌}
use Rattle.std.proofs.lemmas.Bool.{false≢true}
use Rattle.dsql_driver.specs.declared.wire.Answered.{Answered}
use Rattle.sqlite_driver.proofs.ConnectionLemmas.{Compiles-Rests}
use Rattle.sqlite_driver.specs.Used.{LeavesAlone}
use Rattle.sqlite_driver.proofs.calls.prepare.Goals as goal

pub returns-in_ok-answered-in-Ok-clause-served : goal.returns-in_ok-answered-in-Ok-clause-served
returns-in_ok-answered-in-Ok-clause-served c = inr (c.in-Ok.inputs, c.in_ok-answered-in-Ok.ensures.served)

pub returns-in_ok-answered-in-Ok-clause-prepares : goal.returns-in_ok-answered-in-Ok-clause-prepares
returns-in_ok-answered-in-Ok-clause-prepares c = λ succeeded. record {
  inputs = c.in-Ok.inputs;
  answer_is = ap (λ (a : Answered). a.answer) c.in_ok-answered-in-Ok.ensures.served.copies;
  compiles = rw c.as_str.ensures at c.in-Ok.ensures.compiles;
}

pub returns-in_err-answered-in-Ok-clause-undone : goal.returns-in_err-answered-in-Ok-clause-undone
returns-in_err-answered-in-Ok-clause-undone c =
    let left : LeavesAlone c.args.database.now c.inputs.new.self = inr (c.inputs.ensures.holder, Compiles-Rests _ _ _ _ c.in-Ok.ensures.compiles) in
    search (rules, left, c.from_residual-in_err-answered-in-Ok.ensures)

pub returns-in-Err-clause-served : goal.returns-in-Err-clause-served
returns-in-Err-clause-served c = inl (record { twice = c.answer_or.ensures; stays = refl })

pub returns-in-Err-clause-prepares : goal.returns-in-Err-clause-prepares
returns-in-Err-clause-prepares c = λ succeeded. absurd (false≢true (sym succeeded ∙ c.answer_or.ensures.passes))
