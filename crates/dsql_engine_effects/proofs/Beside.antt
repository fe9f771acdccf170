-- Driver calls whose answers do nothing to rows, or nothing to transactions. The argument goes through the
-- driver calls.
use Rattle.std.proofs.Common.{◌≡◌, ℕ, false, List, refl}
use Rattle.dsql_history.specs.driver.declared.call.DriverCall.{DriverCall}
use Rattle.dsql_history.specs.driver.declared.call.DriverCall.TheVariants.{Query, Next}
use Rattle.dsql_history.specs.driver.declared.answer.DriverAnswer.{DriverAnswer}
use Rattle.dsql_history.specs.numbered.Numbered.{Numbered}
use Rattle.dsql_history.specs.tx.declared.tx.Tx.{Tx}
use Rattle.dsql_history.specs.works.HandedOut.{Made}
use Rattle.dsql_engine_effects.specs.Heard.{is_fetch_or_query, calls_after, rows_after}
use Rattle.dsql_history.specs.declared.work.Work.{Work}
use Rattle.dsql_history.specs.declared.work.Task.TheVariants.{HandOut}
use Rattle.dsql_history.specs.declared.work.Work.TheVariants.{Statement, Fetch}
use Rattle.dsql_engine_calls.specs.declared.call.CallRow.{CallRow}

pub rows_beside : (txs : Numbered Tx) (it : Work) (n : ℕ) (call : DriverCall) (answer : DriverAnswer) (rows : Made) → is_fetch_or_query call ≡ false → rows_after txs it n call answer rows ≡ rows
rows_beside txs it n (Query input params) answer rows other = absurd cc
rows_beside txs it n (Next cursor) answer rows other = absurd cc
rows_beside txs (Statement scope (HandOut label)) n call answer rows other = refl
rows_beside txs (Fetch k) n call answer rows other = refl
rows_beside txs it n call answer rows other = refl

pub calls_beside : (it : Work) (n : ℕ) (call : DriverCall) (answer : DriverAnswer) (rows : Made) (calls : List CallRow) → is_fetch_or_query call ≡ false → calls_after it n call answer rows calls ≡ calls
calls_beside it n (Query input params) answer rows calls other = absurd cc
calls_beside it n (Next cursor) answer rows calls other = absurd cc
calls_beside (Fetch k) n call answer rows calls other = refl
calls_beside it n call answer rows calls other = refl
