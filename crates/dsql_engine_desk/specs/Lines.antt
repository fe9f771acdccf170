-- What a call sends next, by what it has to do.
use Rattle.std.specs.Prelude.{ℕ, ◌==◌, Bool, cond, List, Option, Some, None}
use Rattle.dsql_laws_calls.specs.driver.declared.call.DriverCall.{DriverCall}
use Rattle.dsql_laws_calls.specs.course.declared.course.Wish.TheVariants as wishes
use Rattle.dsql_laws_calls.specs.history.declared.event.Event.{Event}
use Rattle.dsql_laws_calls.specs.history.declared.work.Scope.{Scope}
use Rattle.dsql_laws_calls.specs.history.declared.work.Scope.TheVariants.{Db, Held}
use Rattle.dsql_laws_calls.specs.history.Readers.Transactions.{tx_ender}
use Rattle.dsql_laws_calls.specs.history.Rules.Ending.{ending}
use Rattle.dsql_laws_calls.specs.history.Rules.Line.{sends_in}
use Rattle.dsql_laws_calls.specs.history.Rules.Sent.{line_of, sent_for, wish}

-- Is true if call m is to send by itself: on a connection of its own if it asks for one, or in its transaction.
abbrev pub is_to_send : List Event → ℕ → Bool → Scope → Bool
is_to_send past m asking Db = asking
is_to_send past m asking (Held k) = sends_in past m k

-- Returns what call m sends if it is to send by itself.
abbrev pub due_alone : List Event → ℕ → Bool → Scope → Option DriverCall
due_alone past m asking it = cond (is_to_send past m asking it) (line_of past m wishes.Nothing) None

-- Returns what call m sends to end that transaction if it works on one, otherwise what it sends by itself.
abbrev pub due_ending : List Event → ℕ → Bool → Scope → Option ℕ → Option DriverCall
due_ending past m asking it (Some k) = cond (tx_ender past k == m) (ending past k) None
due_ending past m asking it None = due_alone past m asking it

-- Returns what call m sends over those rows if it works on rows, otherwise what it sends to end a transaction
-- or by itself.
abbrev pub due_by : List Event → ℕ → Bool → Scope → Option ℕ → Option ℕ → Option DriverCall
due_by past m asking it tx (Some k) = sent_for past k (wish past m k)
due_by past m asking it tx None = due_ending past m asking it tx
