-- Where a call stands after others have settled what it replies.
use Rattle.std.specs.Prelude.{ℕ, List, Option}
use Rattle.dsql_laws_calls.specs.course.Made.{or_else}
use Rattle.dsql_laws_calls.specs.history.declared.record.Stand.{Stand}
use Rattle.dsql_laws_calls.specs.history.declared.record.Stand.TheVariants.{Replies, Asks}
use Rattle.dsql_laws_calls.specs.history.Readers.Tries.{asks_again, tries}
use Rattle.dsql_laws_calls.specs.history.Rules.Stands.{stands, has_to_reply}
use Rattle.dsql_laws_calls.specs.history.declared.event.Event.{Event}

-- Returns `Replies` if the call has to reply, and otherwise `Asks` if it has another try.
abbrev pub where_told : List Event → ℕ → Option Stand
where_told before n = or_else (stands (has_to_reply before n) Replies) (stands (asks_again (tries before n)) Asks)
