use Rattle.fixed_answers.proofs.AnswerLemmas.{kept-IsLawful}
use Rattle.fixed_answers.proofs.wire.FixedWireWire.call.Goals as goal

pub returns-in-Ok-clause-fitting : goal.returns-in-Ok-clause-fitting
returns-in-Ok-clause-fitting c = (kept-IsLawful _ _ _ _ c.answer.ensures.sound c.in-Ok.ensures.served).fits

pub returns-in-Ok-clause-handles : goal.returns-in-Ok-clause-handles
returns-in-Ok-clause-handles c = (kept-IsLawful _ _ _ _ c.answer.ensures.sound c.in-Ok.ensures.served).handles

pub returns-in-Ok-clause-cursors : goal.returns-in-Ok-clause-cursors
returns-in-Ok-clause-cursors c = (kept-IsLawful _ _ _ _ c.answer.ensures.sound c.in-Ok.ensures.served).cursors
