-- The present state of a run, each part of it compared with the history.
use Rattle.std.specs.Prelude.{◌≡◌, ◌+◌, ◌≤◌, ℕ, List, length, position, vec_len, vec_capacity}
use Rattle.indexmap.specs.IndexMap.{get_by_text, spare}
use Rattle.dsql_laws_calls.specs.pool.Moved.{made}
use Rattle.dsql_laws_calls.specs.history.declared.event.Event.{Event}
use Rattle.dsql_laws_calls.specs.history.Readers.Course as course
use Rattle.dsql_laws_calls.specs.history.Readers.HandedOut as given
use Rattle.dsql_laws_calls.specs.history.Readers.Owed.{owed}
use Rattle.dsql_laws_calls.specs.history.Readers.Pool as pools
use Rattle.dsql_laws_calls.specs.history.Readers.Transactions.{transactions}
use Rattle.dsql_laws_calls.specs.history.Readers.Unfinished as left
use Rattle.dsql_laws_calls.specs.history.Readers.Works as kinds
use Rattle.dsql_laws_calls.specs.history.Legal.{Lawful, Calm}
use Rattle.dsql_engine_calls.specs.Tried.{most_counted}
use Rattle.dsql_engine_calls.specs.Calls.{KeepsCalls}
use Rattle.dsql_engine_lines.specs.declared.lines.Lines.{Lines}
use Rattle.dsql_engine_lines.specs.Inside.{lines}
use Rattle.dsql_engine_lines.specs.Lines.{in_transactions}
use Rattle.dsql_engine_lines.specs.There.{heard_there}
use Rattle.dsql_engine_effects.specs.Once.{AreMadeOnce}
use Rattle.dsql_engine_lines.specs.Sent.{sent}
use Rattle.dsql_engine_desk.specs.Step.{own_step}
use Rattle.dsql_engine_desk.specs.declared.desk.Desk.{Desk}

-- Returns the events so far, newest first.
abbrev pub past : Desk → List Event
past d = d.history.past

-- Returns how many of the oldest events were trimmed.
abbrev pub trimmed : Desk → ℕ
trimmed d = d.history.trimmed

-- Holds if the lines are those of the history.
pub record KeepsLines (past : List Event) (it : Lines) : Type 0 where
  pub there : it.there.items ≡ heard_there past
  pub inside : in_transactions it ≡ lines past

-- Holds if each table has room for as many events as were paid for.
pub record HasRoom (d : Desk) : Type 0 where
  pub history : d.paid ≤ d.history.spare
  pub there : vec_len d.lines.there + d.paid ≤ vec_capacity d.lines.there
  pub lines : vec_len d.lines.calls + d.paid ≤ vec_capacity d.lines.calls
  pub opened : vec_len d.lines.open + d.paid ≤ vec_capacity d.lines.open
  pub calls : vec_len d.calls + d.paid ≤ vec_capacity d.calls
  pub unfinished : vec_len d.unfinished + d.paid ≤ vec_capacity d.unfinished
  pub sent : vec_len d.sent + d.paid ≤ vec_capacity d.sent
  pub labels : d.paid ≤ spare d.labels
  pub tx_labels : d.paid ≤ spare d.tx_labels
  pub rows : d.paid ≤ d.rows.spare
  pub txs : d.paid ≤ d.txs.spare

-- Holds if the desk agrees with its history in all but the pool and what closed the database.
pub record Tables (d : Desk) : Type 0 where
  pub lawful : Lawful (past d)
  pub calm : Calm (past d)
  pub caps : d.caps ≡ course.caps (past d)
  pub ended : d.ended ≡ course.has_ended (past d)
  pub lines : KeepsLines (past d) d.lines
  pub calls : KeepsCalls (past d) d.calls.items
  pub unfinished : d.unfinished.items ≡ left.unfinished (past d)
  pub sent : d.sent.items ≡ sent (past d)
  pub step : d.step ≡ own_step (past d)
  pub labels : (label : List ℕ) → get_by_text d.labels label
      ≡ position (kinds.hands_out_as label) (kinds.works (past d))
  pub tx_labels : (label : List ℕ) → get_by_text d.tx_labels label
      ≡ position (kinds.begins_as label) (kinds.works (past d))
  pub rows : d.rows.rows ≡ given.handed_out (past d)
  pub once : AreMadeOnce (given.handed_out (past d))
  pub counted : length (kinds.works (past d)) ≤ most_counted + 1
  pub txs : d.txs.txs ≡ transactions (past d)
  pub room : HasRoom d

-- Holds if the tables, what closed the database, and the pool are those of the history.
pub record Standing (d : Desk) : Type 0 where
  pub tables : Tables d
  pub closed_by : d.closed_by ≡ course.db_end (past d)
  pub pool : d.pool.pooled ≡ pools.pool (past d)
  pub room : d.paid ≤ d.pool.spare

-- Holds if the pool has already made, in its newest call, the moves that the history owes, and there is memory
-- for them.
pub record Owing (d : Desk) : Type 0 where
  pub tables : Tables d
  pub closed_by : d.closed_by ≡ course.db_end (past d)
  pub pool : d.pool.pooled ≡ made (owed (past d)) (pools.pool (past d))
  pub moves : d.pool.moves ≡ owed (past d)
  pub room : d.paid ≤ d.pool.spare
  pub paid : length (owed (past d)) ≤ d.paid

-- Holds if the desk stands. A step carries this from one event to the next without looking into it.
unfoldable pub Stands : Desk → Type 0
Stands d = Standing d

-- Holds between an event and the moves that it makes due.
unfoldable pub Owes : Desk → Type 0
Owes d = Owing d
