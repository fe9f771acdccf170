use Rattle.std.proofs.Common.{◌≡◌, Bool, true, [], nat_lt, IfOk, if◌then◌else◌, sym, ap, subst, refl, arith}
use Rattle.dsql_driver.specs.declared.answer.DriverAnswer.TheVariants.{Skip}
use Rattle.std.proofs.lemmas.Bool.Decides.{nat_tests}
use Rattle.dsql_mem_session.specs.Calls.{executed, executed_text}
use Rattle.dsql_mem_session.specs.Spelled.{spelled}
use Rattle.dsql_mem_session.specs.Statement.{inputs_of}
use Rattle.dsql_mem_session.specs.declared.execute.Outcome.TheVariants.{Refused}
use Rattle.dsql_mem_session.proofs.execute.execute_text.Goals as goal

pub returns-in-Some : goal.returns-in-Some
returns-in-Some c =
    let statement = spelled c.in-Some.statement in
    let has_inputs : nat_lt 0 (inputs_of statement) ≡ true = grind (arith, nat_tests, c.inputs.ensures, c.if-inputs-gt0.true) in
    subst (λ o. Refused Skip ≡ executed_text c.args.store.now o) c.in-Some.ensures
    (subst (λ (b : Bool). Refused Skip ≡ (if b then Refused Skip else executed c.args.store.now statement [])) (sym has_inputs) refl)

pub returns-in-Some-2 : goal.returns-in-Some-2
returns-in-Some-2 c =
    let statement = spelled c.in-Some.statement in
    let none : inputs_of statement ≡ 0 = omega (arith, c.inputs.ensures, c.if-inputs-gt0.false) in
    subst (λ o. IfOk c.command.result (λ outcome. outcome ≡ executed_text c.args.store.now o)) c.in-Some.ensures
    (subst (λ (b : Bool). IfOk c.command.result (λ outcome. outcome ≡ (if b then Refused Skip else executed c.args.store.now statement []))) (sym (ap (nat_lt 0) none)) c.command.ensures)
