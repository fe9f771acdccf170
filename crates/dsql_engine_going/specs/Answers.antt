-- What each step returns.
use Rattle.std.specs.Prelude.{ℕ, cond, List, Option, Some, None, option_map}
use Rattle.dsql_laws_calls.specs.history.declared.event.Event.{Event}
use Rattle.dsql_laws_calls.specs.history.declared.record.Flight.{Flight}
use Rattle.dsql_laws_calls.specs.history.declared.record.Stand.{Stand}
use Rattle.dsql_laws_calls.specs.history.declared.record.Stand.TheVariants.{Waits, Opens, Sends}
use Rattle.dsql_laws_calls.specs.history.Readers.Unfinished.{is_unfinished}
use Rattle.dsql_laws_calls.specs.history.Rules.Flights.{is_taken}
use Rattle.dsql_laws_calls.specs.history.Rules.Stands.{stand}
use Rattle.dsql_engine_going.specs.declared.next.Next.{Next}
use Rattle.dsql_engine_going.specs.declared.next.Next.TheVariants.{Send, Blocked, Reply}
use Rattle.dsql_engine_going.specs.declared.next.Why.{Why}
use Rattle.dsql_engine_going.specs.declared.next.Why.TheVariants.{Connection, Opening, Turn}
use Rattle.dsql_engine_going.specs.Permits.{permit_for}

-- Returns why call n, which stands here, can't move, if it can't.
abbrev pub why_blocked : List Flight → ℕ → Option Stand → Option Why
why_blocked flights n (Some Waits) = Some Connection
why_blocked flights n (Some (Opens c)) = Some Opening
why_blocked flights n (Some (Sends c)) = cond (is_taken n c flights) (Some (Turn c)) None
why_blocked flights n it = None

-- Returns that the call is blocked, if it is, otherwise the due driver call.
abbrev pub sends_unless : List Event → ℕ → Option Why → Option Next
sends_unless past n (Some why) = Some (Blocked why)
sends_unless past n None = option_map Send (permit_for past n)

-- Returns what follows for call n after it has gone on: it has its reply, is blocked, or its driver call is to
-- be made.
abbrev pub next_for : List Event → List Flight → ℕ → Option Next
next_for past flights n =
    cond (is_unfinished past n) (sends_unless past n (why_blocked flights n (stand past n))) (Some (Reply n))
