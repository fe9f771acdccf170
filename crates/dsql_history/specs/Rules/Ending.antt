-- Defines the driver calls that are still to be made to end a transaction.
use Rattle.std.specs.Prelude.{ℕ, ◌==◌, ◌+◌, Bool, ◌||◌, cond, List, [], ◌∷◌, Option, Some, None}
use Rattle.std.specs.List.{list_any}
use Rattle.dsql_history_work.specs.driver.declared.call.DriverCall.{DriverCall}
use Rattle.dsql_history_work.specs.driver.declared.call.DriverCall.TheVariants.{Commit, Rollback}
use Rattle.dsql_history_work.specs.driver.Kinds.{is_valid, is_ending}
use Rattle.dsql_history_work.specs.course.Made.{or_else}
use Rattle.dsql_history_work.specs.journal.declared.entry.Entry.{Entry}
use Rattle.dsql_history_work.specs.journal.Kinds.{number_of}
use Rattle.dsql_history_work.specs.journal.Readers.{went_bad}
use Rattle.dsql_pool.specs.declared.conn.Place.{Place}
use Rattle.dsql_pool.specs.declared.conn.Place.TheVariants.{Lent}
use Rattle.dsql_tx.specs.declared.end.TxEnd.{TxEnd}
use Rattle.dsql_tx.specs.declared.end.TxEnd.TheVariants as ends
use Rattle.dsql_history_work.specs.Line.{test_of}
use Rattle.dsql_history.specs.declared.event.Event.{Event}
use Rattle.dsql_history.specs.declared.work.Work.{Work}
use Rattle.dsql_history.specs.Readers.Course.{caps}
use Rattle.dsql_history.specs.Readers.Works.{works, hands_out_in}
use Rattle.dsql_history.specs.Readers.Journals.{journal, heard_in}
use Rattle.dsql_history.specs.Readers.Pool.{place, home}
use Rattle.dsql_history.specs.Readers.Transactions.{tx_end}
use Rattle.dsql_history.specs.Rules.Sent.{close_due}

-- Returns the first driver call that closes rows of transaction k, if any. These works belong to the calls from
-- number n on. The first of them that handed out rows in transaction k and has rows to close gives it.
abbrev pub first_closing : List Event → ℕ → ℕ → List Work → Option DriverCall
first_closing before k n [] = None
first_closing before k n (it ∷ later) =
    or_else (cond (hands_out_in k it) (close_due before n) None) (first_closing before k (n + 1) later)

-- Returns the driver call that ends a transaction with this end.
abbrev pub ended_by_call : TxEnd → DriverCall
ended_by_call ends.Commit = Commit
ended_by_call _ = Rollback

-- Returns the driver call that comes after the rows are closed. It is the Commit or Rollback, and then the test, unless
-- the connection is known to be bad.
abbrev pub end_after : List Event → Bool → TxEnd → List Entry → Option DriverCall
end_after before bad end heard =
    cond (list_any (λ e. is_ending e.call) heard) (cond (bad
    || list_any (λ e. is_valid e.call) heard) None (test_of (caps before))) (Some (ended_by_call end))

abbrev pub ending_at : List Event → ℕ → ℕ → TxEnd → Option Place → Option DriverCall
ending_at before k c end (Some (Lent tenure owner)) =
    cond (number_of owner == k)
    (or_else (first_closing before k 0 (works before)) (end_after before (went_bad (journal before c)) end
    (heard_in before c tenure))) None
ending_at before k c end _ = None

-- Returns the driver call that is next for a transaction with this end. Its rows are closed in the order of
-- their queries, each with the handle that its query prepared. Then one Commit or Rollback is sent, even on a
-- connection that is known to be bad, and the connection is tested.
abbrev pub ending_with : List Event → ℕ → Option TxEnd → Option DriverCall
ending_with before k None = None
ending_with before k (Some end) = ending_at before k (home before k) end (place before (home before k))

abbrev pub ending : List Event → ℕ → Option DriverCall
ending before k = ending_with before k (tx_end before k)
