-- Defines the clients of a history. Clients and calls are numbered from 1, and 0 stands for none.
use Rattle.std.specs.Prelude.{ℕ, ◌==◌, ◌+◌, Bool, cond, List, [], ◌∷◌, find}
use Rattle.dsql_history.specs.declared.event.Event.{Event}
use Rattle.dsql_history.specs.declared.event.Event.TheVariants.{Entered}
use Rattle.dsql_history.specs.Readers.Pool.{or_none}
use Rattle.dsql_history.specs.Readers.Calls.{call_record}
use Rattle.dsql_history.specs.Readers.Unfinished.{unfinished}

-- Returns the client that made call n.
abbrev pub client_of : List Event → ℕ → ℕ
client_of before n = (call_record before n).client

-- Returns the client's unfinished call, 0 if it has none.
abbrev pub call_of : List Event → ℕ → ℕ
call_of before client = or_none (find (λ n. client_of before n == client) (unfinished before))

-- Is true if the client has no unfinished call.
abbrev pub is_free : List Event → ℕ → Bool
is_free before client = call_of before client == 0

-- Returns the number of calls that the client has made.
abbrev pub made_by : List Event → ℕ → ℕ
made_by [] client = 0
made_by (Entered k n op ∷ before) client = cond (k == client) (made_by before client + 1) (made_by before client)
made_by (_ ∷ before) client = made_by before client
