-- What the tables of rows and of transactions say is what the history says. The argument compares both case by
-- case.
use Rattle.std.proofs.Common.{◌≡◌, ℕ, true, false, List, Some, None, refl}
use Rattle.dsql_history.specs.driver.declared.call.DriverCall.{DriverCall}
use Rattle.dsql_history.specs.driver.declared.call.DriverCall.TheVariants.{Query, Next}
use Rattle.dsql_history.specs.driver.declared.answer.DriverAnswer.{DriverAnswer}
use Rattle.dsql_history.specs.driver.declared.answer.DriverAnswer.TheVariants.{Cursor}
use Rattle.dsql_history.specs.works.HandedOut.{Made}
use Rattle.dsql_history.specs.declared.event.Event.{Event}
use Rattle.dsql_history.specs.declared.work.Scope.TheVariants.{Db, Held}
use Rattle.dsql_history.specs.declared.work.Work.{Work}
use Rattle.dsql_history.specs.declared.work.Task.TheVariants.{HandOut}
use Rattle.dsql_history.specs.declared.work.Work.TheVariants.{Statement, Fetch}
use Rattle.dsql_history.specs.Readers.Calls.{is_there, tx_refused}
use Rattle.dsql_history.specs.Readers.HandedOut.{rows_heard}
use Rattle.dsql_history.specs.Readers.Transactions.{transactions}
use Rattle.dsql_history.specs.Readers.Works.{works, tx_maker}
use Rattle.dsql_engine_effects.specs.Heard.{rows_after}
use Rattle.dsql_engine_effects.specs.Starting.{told_on}

pub rows_as_heard : (H : List Event) (it : Work) (n : ℕ) (call : DriverCall) (answer : DriverAnswer) (rows : Made) → rows_after (transactions H) it n call answer rows ≡ rows_heard H it n call answer rows
rows_as_heard H (Statement Db (HandOut label)) n (Query input params) (Cursor cursor columns) rows = refl
rows_as_heard H (Statement (Held k) (HandOut label)) n (Query input params) (Cursor cursor columns) rows = refl
rows_as_heard H (Statement it (HandOut label)) n (Query input params) answer rows = refl
rows_as_heard H (Fetch k) n (Next cursor) answer rows = refl
rows_as_heard H it n call answer rows = refl

-- If a transaction of the label is there, the table gives a call on it the reply that the history gives. The
-- next lemma says the same if none is there.
pub told_there : (H : List Event) (label : List ℕ) (k : ℕ) → k ≡ tx_maker (works H) label → is_there H k ≡ true → told_on label (Some k) (transactions H) ≡ tx_refused H label
told_there H label k is there = rw (← is, there) refl

pub told_absent : (H : List Event) (label : List ℕ) → is_there H (tx_maker (works H) label) ≡ false → told_on label None (transactions H) ≡ tx_refused H label
told_absent H label none = rw none refl
