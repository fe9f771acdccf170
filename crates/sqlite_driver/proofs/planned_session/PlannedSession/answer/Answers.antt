use Rattle.std.proofs.Common.{sym, ◌∙◌}
use Rattle.std.proofs.lemmas.Bool.{false≢true}
use Rattle.sqlite_driver.proofs.ServedLemmas.{ServesUnless-copied}
use Rattle.sqlite_driver.proofs.WireLemmas.{Hears-IsLawful}
use Rattle.sqlite_driver.proofs.planned_session.PlannedSession.answer.Goals as goal

pub returns-in-Ok-clause-copied : goal.returns-in-Ok-clause-copied
returns-in-Ok-clause-copied c = ServesUnless-copied _ _ _ _ _ c.in-Ok.ensures.heard.served

pub returns-in-Ok-clause-wants : goal.returns-in-Ok-clause-wants
returns-in-Ok-clause-wants c = λ memory.
    let law = Hears-IsLawful _ _ _ _ c.vouch.ensures c.in-Ok.ensures.heard in
    absurd (false≢true (sym law.answered ∙ memory))
