-- A worked summary of a run with a transaction.
use Rattle.std.specs.Prelude.{◌≡◌, ℕ, List, [], ◌∷◌, ◌++◌, true, false, codes}
use Rattle.dsql_history.specs.driver.declared.answer.DriverAnswer.TheVariants.{Done}
use Rattle.dsql_history.specs.driver.declared.call.DriverCall.{DriverCall}
use Rattle.dsql_history.specs.driver.declared.call.DriverCall.TheVariants as calls
use Rattle.dsql_history.specs.driver.declared.call.Level.TheVariants as levels
use Rattle.dsql_history.specs.journal.declared.entry.Owner.{Owner}
use Rattle.dsql_history.specs.journal.declared.entry.Owner.TheVariants.{House, Tx}
use Rattle.dsql_history.specs.tx.declared.end.TxEnd.TheVariants as ends
use Rattle.dsql_history.specs.declared.event.Event.{Event}
use Rattle.dsql_history.specs.declared.event.Event.TheVariants.{Entered, Heard, Replied, Ended}
use Rattle.dsql_history.specs.declared.event.Op.TheVariants as ops
use Rattle.dsql_history.specs.declared.reply.Reply.TheVariants as reply
use Rattle.dsql_script_show.specs.Summary.{line_of, summary_of}

-- Returns the entry in which a driver carries out a driver call of call n, in transaction t or in none if t is
-- 0.
abbrev pub done_by : Owner → ℕ → ℕ → DriverCall → Event
done_by owner n t call =
    Heard (record { conn = 1; tenure = 2; owner = owner; call_no = n; tx = t; call = call; answer = Done })

-- A history in which a transaction is begun and rolled back, and a commit of it replies so. One begin is
-- refused for its level, and one because it is read-only.
abbrev pub sample : List Event
sample =
    Ended
    ∷ Replied 5 reply.ReadOnly
    ∷ Entered 1 5 (ops.Begin (codes "z") levels.Default true)
    ∷ Replied 4 (reply.Isolation levels.Snapshot)
    ∷ Entered 1 4 (ops.Begin (codes "y") levels.Snapshot false)
    ∷ Replied 3 (reply.TxDone ends.Rollback)
    ∷ Entered 1 3 (ops.Commit (codes "x"))
    ∷ Replied 2 reply.Ok
    ∷ done_by (Tx 1) 2 1 calls.Rollback
    ∷ Entered 1 2 (ops.Rollback (codes "x"))
    ∷ Replied 1 reply.Ok
    ∷ done_by (Tx 1) 1 1 (calls.Begin levels.Default false)
    ∷ done_by House 0 0 calls.Connect
    ∷ Entered 1 1 (ops.Begin (codes "x") levels.Default false)
    ∷ []

pub record WorkedSummaries : Type 0 where
  pub counted : line_of (summary_of 6 sample) ≡ codes "[\"summary\",6,5,1,3,2,3]" ++ 10 ∷ []
  pub empty : line_of (summary_of 0 []) ≡ codes "[\"summary\",0,0,0,0,0,0]" ++ 10 ∷ []
