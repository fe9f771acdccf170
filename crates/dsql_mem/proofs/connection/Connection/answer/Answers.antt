use Rattle.std.proofs.Common.{sym, ap, ◌∙◌}
use Rattle.std.proofs.lemmas.Bool.{false≢true}
use Rattle.dsql_driver.specs.Fits.{is_memory}
use Rattle.dsql_mem.proofs.PlanLemmas.{comes_of-IsLawful}
use Rattle.dsql_mem.proofs.connection.Connection.answer.Goals as goal

pub returns-in-Ok-clause-wants : goal.returns-in-Ok-clause-wants
returns-in-Ok-clause-wants c = λ memory.
    let law = comes_of-IsLawful c.args.store.now c.args.self.now c.args.call.now c.vouch.ensures in
    absurd (false≢true (sym law.answered ∙ sym (ap is_memory c.in-Ok.ensures.answer) ∙ memory))
