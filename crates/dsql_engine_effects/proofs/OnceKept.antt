-- Rows are made once in a history whose answers are heard in their place. The argument is that only the answer
-- to a Query adds rows, and that the call has made none before.
use Rattle.std.proofs.Common.{◌≡◌, ℕ, Bool, true, false, List, refl}
use Rattle.dsql_history.specs.driver.declared.call.DriverCall.{DriverCall}
use Rattle.dsql_history.specs.driver.declared.call.DriverCall.TheVariants.{Query, Next}
use Rattle.dsql_history.specs.driver.declared.answer.DriverAnswer.{DriverAnswer}
use Rattle.dsql_history.specs.driver.declared.answer.DriverAnswer.TheVariants.{Cursor}
use Rattle.dsql_history.specs.rows.declared.end.RowsEnd.TheVariants.{Close}
use Rattle.dsql_history.specs.rows.OpenRows.{fresh, ended_by}
use Rattle.dsql_history.specs.works.HandedOut.{Made}
use Rattle.dsql_history.specs.Readers.HandedOut.{fetched, born, ended_with, is_late, last_end, rows_at_end, rows_entered, rows_heard}
use Rattle.dsql_history.specs.declared.event.Event.{Event}
use Rattle.dsql_history.specs.declared.event.Op.{Op}
use Rattle.dsql_history.specs.declared.event.Op.TheVariants.{RowsClose, Commit, Rollback}
use Rattle.dsql_history.specs.declared.work.Work.{Work}
use Rattle.dsql_history.specs.declared.work.Task.TheVariants.{HandOut}
use Rattle.dsql_history.specs.declared.work.Work.TheVariants.{Statement, Fetch}
use Rattle.dsql_history.specs.Readers.Unfinished.{is_unfinished}
use Rattle.dsql_history.specs.Readers.Works.{hands_out_in, rows_maker, scope, tx_maker, work, works}
use Rattle.dsql_engine_effects.specs.Heard.{HearsRows}
use Rattle.dsql_engine_effects.specs.Once.{AreMadeOnce}
use Rattle.dsql_engine_effects.proofs.MadeOnce.{once_changed, once_each, once_pushed}

pub rows_once_heard : (H : List Event) (it : Work) (n : ℕ) (call : DriverCall) (answer : DriverAnswer) (rows : Made) → HearsRows it n call rows → AreMadeOnce rows → AreMadeOnce (rows_heard H it n call answer rows)
rows_once_heard H (Statement it (HandOut label)) n (Query input params) (Cursor cursor columns) rows hears once = once_pushed n (born (is_late H it) (fresh cursor columns)) rows hears once
rows_once_heard H (Fetch k) n (Next cursor) answer rows hears once = once_changed (fetched answer) k rows once
rows_once_heard H it n call answer rows hears once = once

once_with : (H : List Event) (tx : List ℕ) (rows : Made) → AreMadeOnce rows → AreMadeOnce (ended_with H tx rows)
once_with H tx rows once = by (is_unfinished H (tx_maker (works H) tx)) refl
  where
    by : (b : Bool) → is_unfinished H (tx_maker (works H) tx) ≡ b → AreMadeOnce (ended_with H tx rows)
    by true is = rw is once
    by false is = rw is (once_each (λ q r. born (hands_out_in (tx_maker (works H) tx) (work H q)) r) rows once)

once_closed : (H : List Event) (label : List ℕ) (rows : Made) → AreMadeOnce rows → AreMadeOnce (rows_entered H (RowsClose label) rows)
once_closed H label rows once = by (is_unfinished H (rows_maker (works H) label)) refl
  where
    by : (b : Bool) → is_unfinished H (rows_maker (works H) label) ≡ b → AreMadeOnce (rows_entered H (RowsClose label) rows)
    by true is = rw is once
    by false is = rw is (once_changed (ended_by Close) (rows_maker (works H) label) rows once)

pub rows_once_entered : (H : List Event) (op : Op) (rows : Made) → AreMadeOnce rows → AreMadeOnce (rows_entered H op rows)
rows_once_entered H (RowsClose label) rows once = once_closed H label rows once
rows_once_entered H (Commit tx) rows once = once_with H tx rows once
rows_once_entered H (Rollback tx) rows once = once_with H tx rows once
rows_once_entered H op rows once = once

pub rows_once_at_end : (H : List Event) (rows : Made) → AreMadeOnce rows → AreMadeOnce (rows_at_end H rows)
rows_once_at_end H rows once = once_each (λ q r. ended_by (last_end (scope (work H q))) r) rows once
