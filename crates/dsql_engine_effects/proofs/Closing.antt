-- What the close of rows decides. The argument goes through the replies that may have been decided before.
use Rattle.std.proofs.Common.{◌≡◌, ℕ, Bool, true, false, List, Option, Some, None, refl}
use Rattle.dsql_history.specs.driver.declared.answer.DriverAnswer.{DriverAnswer}
use Rattle.dsql_history.specs.driver.declared.answer.DriverAnswer.TheVariants.{Bad, Fail}
use Rattle.dsql_history.specs.driver.Fits.{is_failure}
use Rattle.dsql_history.specs.declared.reply.Reply.{Reply}
use Rattle.dsql_history.specs.declared.reply.Reply.TheVariants.{Cells, Driver, BadConn}
use Rattle.dsql_history.specs.Readers.Decisions.{closing_decision}

-- Is true if the reply is a row.
abbrev pub are_cells : Option Reply → Bool
are_cells (Some (Cells cells)) = true
are_cells _ = false

pub closing_other : (k : ℕ) (a : DriverAnswer) (d : Option Reply) → are_cells d ≡ false → closing_decision k a d ≡ d
closing_other k (Fail text) None h = refl
closing_other k a (Some (Cells cells)) h = absurd cc
closing_other k _ _ h = refl

pub closing_failed : (k : ℕ) (text : List ℕ) (d : Option Reply) → are_cells d ≡ true → closing_decision k (Fail text) d ≡ Some (Driver text)
closing_failed k text (Some (Cells cells)) h = refl
closing_failed k text d h = absurd cc

pub closing_bad : (k : ℕ) (d : Option Reply) → are_cells d ≡ true → closing_decision k Bad d ≡ Some (BadConn k)
closing_bad k (Some (Cells cells)) h = refl
closing_bad k d h = absurd cc

pub closing_well : (k : ℕ) (a : DriverAnswer) (d : Option Reply) → is_failure a ≡ false → closing_decision k a d ≡ d
closing_well k (Fail text) d h = absurd cc
closing_well k Bad d h = absurd cc
closing_well k a d h = refl
