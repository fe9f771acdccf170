-- Defines how a report writes the calls of clients.
use Rattle.std.specs.Prelude.{List, [], ◌∷◌, Option, Some, None, ℕ, Bool, true, false, ◌++◌, codes}
use Rattle.serde_json.specs.Data.{Data, string}
use Rattle.dsql_history.specs.driver.declared.call.Level.{Level}
use Rattle.dsql_history.specs.driver.declared.call.Level.TheVariants.{Default}
use Rattle.dsql_history.specs.declared.event.Op.{Op}
use Rattle.dsql_history.specs.declared.event.Op.TheVariants as op
use Rattle.dsql_history.specs.declared.event.Target.{Target}
use Rattle.dsql_history.specs.declared.event.Target.TheVariants as targets
use Rattle.dsql_script_spelling.specs.LineValues.{worded, natural}
use Rattle.dsql_script_spelling.specs.LineArgs.{statement_data}
use Rattle.dsql_script_spelling.specs.Dests.{dests_word}
use Rattle.dsql_script_report.specs.LineCalls.{level_word}

-- Returns a list of the array, or an empty list if there is none.
abbrev pub if_any : Option Data → List Data
if_any None = []
if_any (Some d) = d ∷ []

-- Returns the word for a call's target: the database, or a transaction by its label.
abbrev pub target_word : Target → List ℕ
target_word targets.Db = codes "db"
target_word (targets.Label tx) = tx

-- Returns the words for the isolation level that a begin asks for. The default level isn't named.
abbrev pub level_words : Level → List ℕ
level_words Default = []
level_words level = codes " level=" ++ level_word level

-- Returns `ro` if a begin asks for a transaction that only reads, and nothing otherwise.
abbrev pub read_only_words : Bool → List ℕ
read_only_words true = codes " ro"
read_only_words false = []

abbrev pub begin_words : List ℕ → Level → Bool → List ℕ
begin_words label level read_only =
    codes "begin " ++ (label ++ (codes " db" ++ (level_words level ++ read_only_words read_only)))

-- Returns the words of a call's line in the script, without the client.
abbrev pub op_words : Op → List ℕ
op_words (op.Exec target text args) = codes "exec " ++ target_word target
op_words (op.Query label target text args) = codes "query " ++ (label ++ (codes " " ++ target_word target))
op_words (op.One target dests text args) = codes "one " ++ (target_word target ++ (codes " " ++ dests_word dests))
op_words (op.Next rows) = codes "next " ++ rows
op_words (op.Scan rows dests) = codes "scan " ++ (rows ++ (codes " " ++ dests_word dests))
op_words (op.RowsClose rows) = codes "rowsclose " ++ rows
op_words (op.Err rows) = codes "err " ++ rows
op_words (op.Begin label level read_only) = begin_words label level read_only
op_words (op.Commit tx) = codes "commit " ++ tx
op_words (op.Rollback tx) = codes "rollback " ++ tx
op_words op.Ping = codes "ping db"
op_words op.DbClose = codes "dbclose"
op_words op.Stats = codes "stats"

-- Returns the array of the call's line, or `None` for a call that carries no text.
abbrev pub op_data : Op → Option Data
op_data (op.Exec target text args) = Some (statement_data text args)
op_data (op.Query label target text args) = Some (statement_data text args)
op_data (op.One target dests text args) = Some (statement_data text args)
op_data _ = None

abbrev pub entered_data : ℕ → ℕ → Op → Data
entered_data client n op =
    worded (codes "enter") (natural client ∷ natural n ∷ string (op_words op) ∷ if_any (op_data op))
