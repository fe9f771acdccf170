-- Defines the rows that queries handed out: their current row, and what and who ended them first.
use Rattle.std.specs.Prelude.{Bool, false, not, cond, Option, Some, None, ℕ, List, [], ◌∷◌, ◌++◌, map}
use Rattle.dsql_history_work.specs.driver.declared.answer.DriverAnswer.{DriverAnswer}
use Rattle.dsql_history_work.specs.rows.declared.rows.Rows.{Rows}
use Rattle.dsql_value_numbered.specs.Numbered.{changed}
use Rattle.dsql_history_work.specs.rows.OpenRows.{is_live, fresh, ended_by, rows_of}
use Rattle.dsql_history_work.specs.HandedOut.{after_fetch, Made}
use Rattle.dsql_history_work.specs.driver.declared.call.DriverCall.{DriverCall}
use Rattle.dsql_history_work.specs.driver.declared.call.DriverCall.TheVariants.{Query, Next}
use Rattle.dsql_history_work.specs.driver.declared.answer.DriverAnswer.TheVariants.{Cursor}
use Rattle.dsql_history_work.specs.rows.declared.end.RowsEnd.{RowsEnd}
use Rattle.dsql_history_work.specs.rows.declared.end.RowsEnd.TheVariants as ends
use Rattle.dsql_history.specs.declared.event.Event.{Event}
use Rattle.dsql_history.specs.declared.event.Event.TheVariants.{Entered, Heard, Ended}
use Rattle.dsql_history.specs.declared.event.Op.{Op}
use Rattle.dsql_history.specs.declared.event.Op.TheVariants.{RowsClose, Commit, Rollback}
use Rattle.dsql_history.specs.declared.work.Scope.{Scope}
use Rattle.dsql_history.specs.declared.work.Scope.TheVariants.{Db, Held}
use Rattle.dsql_history.specs.declared.work.Work.{Work}
use Rattle.dsql_history.specs.declared.work.Task.TheVariants.{HandOut}
use Rattle.dsql_history.specs.declared.work.Work.TheVariants.{Statement, Fetch}
use Rattle.dsql_history.specs.Readers.Unfinished.{is_unfinished}
use Rattle.dsql_history.specs.Readers.Works.{works, work, rows_maker, tx_maker, scope, hands_out_in}
use Rattle.dsql_history.specs.Readers.Transactions.{is_over}

-- Returns rows after this answer to a fetch from them. If something has ended the rows in the meantime, the
-- answer doesn't change them.
abbrev pub fetched : DriverAnswer → Rows → Rows
fetched answer rows = cond (is_live rows) (after_fetch answer rows) rows

-- Is true if there are rows and nothing has ended them.
abbrev pub live : Option Rows → Bool
live None = false
live (Some rows) = is_live rows

-- Is true if there are rows and something has ended them.
abbrev pub over : Option Rows → Bool
over None = false
over (Some rows) = not (is_live rows)

-- Returns rows as a query makes them. If their transaction has ended meanwhile, its end has ended them.
abbrev pub born : Bool → Rows → Rows
born too_late rows = cond too_late (ended_by ends.TxEnded rows) rows

-- Is true if rows of this scope belong to a transaction that has ended.
abbrev pub is_late : List Event → Scope → Bool
is_late before Db = false
is_late before (Held k) = is_over before k

-- Returns the rows after an answer to call n. A query's cursor makes its rows, and a fetch changes the rows
-- that it fetches from.
abbrev pub rows_heard : List Event → Work → ℕ → DriverCall → DriverAnswer → Made → Made
rows_heard before (Statement it (HandOut label)) n (Query input params) (Cursor cursor columns) rows =
    rows ++ (n, born (is_late before it) (fresh cursor columns)) ∷ []
rows_heard before (Fetch k) n (Next cursor) answer rows = changed (fetched answer) k rows
rows_heard before _ n call answer rows = rows

-- Returns the rows of this entry after the end of transaction k. Rows of a transaction that goes on end with
-- it.
abbrev pub end_in : List Event → ℕ → ℕ × Rows → ℕ × Rows
end_in before k it = (it.0, born (hands_out_in k (work before it.0)) it.1)

abbrev pub ended_with : List Event → List ℕ → Made → Made
ended_with before tx rows =
    cond (is_unfinished before (tx_maker (works before) tx)) rows
    (map (end_in before (tx_maker (works before) tx)) rows)

-- Returns the rows after a call enters. A call that closes rows ends them if their query has replied. A call
-- that ends a transaction ends its rows.
abbrev pub rows_entered : List Event → Op → Made → Made
rows_entered before (RowsClose label) rows =
    cond (is_unfinished before (rows_maker (works before) label)) rows
    (changed (ended_by ends.Close) (rows_maker (works before) label) rows)
rows_entered before (Commit tx) rows = ended_with before tx rows
rows_entered before (Rollback tx) rows = ended_with before tx rows
rows_entered before op rows = rows

-- Returns what ends rows of this scope at the end of the run, which ends the transactions with their rows, and
-- all other rows.
abbrev pub last_end : Scope → RowsEnd
last_end Db = ends.EndOfRun
last_end (Held k) = ends.TxEnded

abbrev pub rows_at_end : List Event → Made → Made
rows_at_end before rows = map (λ it. (it.0, ended_by (last_end (scope (work before it.0))) it.1)) rows

abbrev pub handed_out : List Event → Made
handed_out [] = []
handed_out (Entered client n op ∷ before) = rows_entered before op (handed_out before)
handed_out (Heard e ∷ before) = rows_heard before (work before e.call_no) e.call_no e.call e.answer (handed_out before)
handed_out (Ended ∷ before) = rows_at_end before (handed_out before)
handed_out (_ ∷ before) = handed_out before

-- Returns the rows that call n handed out, if any.
abbrev pub rows_by : List Event → ℕ → Option Rows
rows_by before n = rows_of n (handed_out before)

-- Is true if the rows of call n are live.
abbrev pub are_live : List Event → ℕ → Bool
are_live before n = live (rows_by before n)

-- Is true if the rows of call n are over.
abbrev pub are_over : List Event → ℕ → Bool
are_over before n = over (rows_by before n)

-- Returns the call that an event belongs to, 0 if it belongs to none.
abbrev pub caller : Event → ℕ
caller (Entered client n op) = n
caller (Heard e) = e.call_no
caller _ = 0

-- Returns the call of an event that ended rows which were live before it, 0 if they are still live.
abbrev pub ended_at : Event → Bool → ℕ
ended_at e still_live = cond still_live 0 (caller e)

-- Returns the call that ended the rows of call n, 0 if no call did. It is a call that closes them or ends their
-- transaction, as it entered, or a fetch that got no row. The rows themselves say what ended them, if anything has.
abbrev pub ender : List Event → ℕ → ℕ
ender [] n = 0
ender (e ∷ before) n = cond (are_live before n) (ended_at e (are_live (e ∷ before) n)) (ender before n)
