-- Defines a history in which a call asked for a connection.
use Rattle.std.specs.Prelude.{ℕ, List, ◌∷◌, Result, Ok}
use Rattle.dsql_history.specs.pool.declared.moves.Move.TheVariants.{OpenStart, Lend}
use Rattle.dsql_history.specs.pool.declared.request.Asked.{Asked}
use Rattle.dsql_history.specs.pool.declared.request.Asked.TheVariants as asked
use Rattle.dsql_history.specs.pool.declared.request.AskFault.{AskFault}
use Rattle.dsql_history.specs.declared.event.Event.{Event}
use Rattle.dsql_history.specs.declared.event.Event.TheVariants.{Pool, Waits}
use Rattle.dsql_history.specs.Readers.Works.{owner_of}

-- Returns the history after call n asked with this outcome: a lending, an opening, or a wait.
abbrev pub with_asked : ℕ → Result Asked AskFault → List Event → List Event
with_asked n (Ok (asked.Lent c tenure)) history = Pool (Lend c tenure (owner_of history n) n) ∷ history
with_asked n (Ok (asked.Opening c)) history = Pool (OpenStart c n) ∷ history
with_asked n (Ok asked.Queued) history = Waits n ∷ history
with_asked n _ history = history
