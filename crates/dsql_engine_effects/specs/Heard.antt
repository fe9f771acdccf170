-- Defines what an entry decides for its call, and how it changes the calls, the rows and the transactions.
use Rattle.std.specs.Prelude.{Bool, true, false, ℕ, ◌≡◌, ◌≢◌, ◌==◌, ◌&&◌, cond, List, [], ◌∷◌, ◌++◌, length, Option, is_some}
use Rattle.dsql_history.specs.driver.declared.call.DriverCall.{DriverCall}
use Rattle.dsql_history.specs.driver.declared.call.DriverCall.TheVariants.{Next, Query, Begin}
use Rattle.dsql_history.specs.driver.declared.answer.DriverAnswer.{DriverAnswer}
use Rattle.dsql_history.specs.driver.declared.answer.DriverAnswer.TheVariants as answers
use Rattle.dsql_history.specs.value.declared.value.Param.{Param}
use Rattle.dsql_history.specs.driver.declared.call.Input.{Input}
use Rattle.dsql_history.specs.journal.declared.entry.Entry.{Entry}
use Rattle.dsql_history.specs.numbered.Numbered.{Numbered, thing_of, changed}
use Rattle.dsql_history.specs.numbered.Numbered as numbered
use Rattle.dsql_history.specs.rows.OpenRows.{fresh, rows_of, was_made}
use Rattle.dsql_history.specs.tx.declared.tx.Tx.{Tx}
use Rattle.dsql_history.specs.works.HandedOut.{Made}
use Rattle.dsql_history.specs.Readers.HandedOut.{fetched, live, born}
use Rattle.dsql_engine_calls.specs.declared.tried.Tried.{Tried}
use Rattle.dsql_engine_calls.specs.Tried.{newest_lost}
use Rattle.dsql_history.specs.declared.record.CallRecord.{CallRecord}
use Rattle.dsql_history.specs.declared.reply.Reply.{Reply}
use Rattle.dsql_history.specs.declared.work.Scope.{Scope}
use Rattle.dsql_history.specs.declared.work.Scope.TheVariants as scopes
use Rattle.dsql_history.specs.declared.work.Work.{Work}
use Rattle.dsql_history.specs.declared.work.Task.TheVariants.{HandOut}
use Rattle.dsql_history.specs.declared.work.Work.TheVariants.{Statement, Fetch}
use Rattle.dsql_history.specs.Readers.Calls.{decided_by}
use Rattle.dsql_history.specs.Readers.Decisions.{Trying, decision, fetch_decision, query_decision}
use Rattle.dsql_history.specs.Readers.Transactions.{end_of}
use Rattle.dsql_history.specs.Readers.Tries.{loses, tries_again}
use Rattle.dsql_engine_calls.specs.declared.call.CallRow.{CallRow}
use Rattle.dsql_engine_calls.specs.Calls.{with_row, with_ender}

-- Is true if an answer to the driver call may change the rows.
abbrev pub is_fetch_or_query : DriverCall → Bool
is_fetch_or_query (Query input params) = true
is_fetch_or_query (Next rows) = true
is_fetch_or_query _ = false

-- Is true if the answer ends the rows that a fetch is from.
abbrev pub is_end : DriverAnswer → Bool
is_end answers.End = true
is_end (answers.Fail text) = true
is_end answers.Bad = true
is_end _ = false

-- Holds if the reply is what the answer to a Query or a Next decides in this try for a call with this work. The
-- copy is a copy of that answer. There is no call 0.
pub record Decides (number : ℕ) (work : Work) (entry : Entry) (copy : DriverAnswer)
    (reply : Option Reply) : Type 0 where
  pub same : copy ≡ entry.answer
  pub fetch : entry.call_no ≢ 0 → (rows : ℕ) → entry.call ≡ Next rows
      → reply ≡ fetch_decision (tries_again work number) number work entry.answer
  pub query : entry.call_no ≢ 0 → (input : Input) (params : List Param) → entry.call ≡ Query input params
      → reply ≡ query_decision (tries_again work number) number work entry.answer

-- Holds if a query hasn't made its rows yet, and if a fetch is of rows that were made. Those may have ended
-- meanwhile.
abbrev pub HearsRows : Work → ℕ → DriverCall → Made → Type 0
HearsRows (Statement it (HandOut label)) n (Query input params) rows = was_made n rows ≡ false
HearsRows (Fetch k) n (Next cursor) rows = was_made k rows ≡ true
HearsRows _ n call rows = Unit {0}

-- Holds if a call that begins a transaction hasn't begun it yet.
abbrev pub HearsBegin : ℕ → DriverCall → Numbered Tx → Type 0
HearsBegin n (Begin level read_only) txs = numbered.was_made n txs ≡ false
HearsBegin n call txs = Unit {0}

-- Is true if rows of a call in this scope come too late, given these transactions.
abbrev pub are_late : Numbered Tx → Scope → Bool
are_late txs scopes.Db = false
are_late txs (scopes.Held k) = is_some (end_of (thing_of k txs))

-- Returns the rows together with those of call n, if this answer is their cursor. `late` says whether they come
-- too late.
abbrev pub made_by : Bool → ℕ → DriverAnswer → Made → Made
made_by late n (answers.Cursor cursor columns) rows = rows ++ (n, born late (fresh cursor columns)) ∷ []
made_by late n _ rows = rows

-- Returns the rows after an answer to call n with this work, given these transactions.
abbrev pub rows_after : Numbered Tx → Work → ℕ → DriverCall → DriverAnswer → Made → Made
rows_after txs (Statement it (HandOut label)) n (Query i params) answer rows = made_by (are_late txs it) n answer rows
rows_after txs (Fetch k) n (Next cursor) answer rows = changed (fetched answer) k rows
rows_after txs _ n call answer rows = rows

-- Returns the calls after call n has ended the rows of call k, if it has.
abbrev pub ended_for : Bool → ℕ → ℕ → List CallRow → List CallRow
ended_for true k n calls = with_row k (with_ender n) calls
ended_for false k n calls = calls

-- Returns the calls after call n with this work got this answer, given the rows that were made before.
abbrev pub calls_after : Work → ℕ → DriverCall → DriverAnswer → Made → List CallRow → List CallRow
calls_after (Fetch k) n (Next cursor) answer rows calls = ended_for (live (rows_of k rows) && is_end answer) k n calls
calls_after _ n call answer rows calls = calls

abbrev pub decided_as : Option Reply → CallRecord → CallRecord
decided_as reply it = record it { decided = reply }

-- Returns a call with this work after one of its driver calls was answered in this try. `again` says whether it
-- tries again.
abbrev pub deciding : Bool → ℕ → Work → DriverCall → DriverAnswer → CallRecord → CallRecord
deciding again number work call answer it =
    let stands : Trying = record { again = again; number = number; count = length it.params; work = work } in
    decided_as (decision stands call answer it.decided) it

-- Returns the tries of a call with this work after one of its driver calls was answered.
abbrev pub tries_after : Work → Entry → Tried → Tried
tries_after work e tried = cond (loses work e) (newest_lost tried) tried

-- Returns the row of a call with this work after one of its driver calls was answered in this try. The layer's
-- own calls are nobody's.
abbrev pub call_row_after : ℕ → Work → Entry → CallRow → CallRow
call_row_after number work e row =
    record row {
      call = decided_by number work e row.call;
      tried = cond (e.call_no == 0) row.tried
          (tries_after work e row.tried);
    }

-- Returns the calls after one of them got the answer to one of its driver calls in this try.
abbrev pub calls_told : ℕ → Work → Entry → List CallRow → List CallRow
calls_told number work e calls = with_row e.call_no (call_row_after number work e) calls
