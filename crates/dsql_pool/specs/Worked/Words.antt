-- Requests, figures and small pools for worked values.
use Rattle.std.specs.Prelude.{ℕ, zero, suc, ◌+◌, Bool, false, true, pos, List, [], ◌∷◌, ◌++◌, None}
use Rattle.dsql_tenure_journal.specs.declared.entry.Owner.{Owner}
use Rattle.dsql_tenure_journal.specs.declared.entry.Owner.TheVariants.{Call as ForCall}
use Rattle.dsql_wait.specs.declared.request.Request.{Request}
use Rattle.dsql_pool.specs.declared.conn.Conn.{Conn}
use Rattle.dsql_pool.specs.declared.conn.Place.TheVariants.{Lent}
use Rattle.dsql_pool.specs.declared.moves.Fate.TheVariants.{Good}
use Rattle.dsql_pool.specs.declared.stats.Stats.{Stats}
use Rattle.dsql_pool.specs.Pooled.{Pooled, fresh}
use Rattle.dsql_pool.specs.Runs.{Call, Ask, Opened, GiveBack, SetOpen, after_all}

-- Returns the request of call n for an owner at a moment, in its last try or an earlier one.
abbrev pub asked_by : Owner → Bool → ℕ → ℕ → Request
asked_by owner last n asked = record { call = n; owner = owner; last = last; token = None; asked = asked }

-- Returns the first try of a call on the database, at the moment 0.
abbrev pub try : ℕ → Call
try n = Ask (asked_by (ForCall n) false n 0)

-- Returns the third try of a call.
abbrev pub third_try : ℕ → Call
third_try n = Ask (asked_by (ForCall n) true n 0)

abbrev pub figures : ℕ → ℕ → ℕ → ℕ → ℕ → ℕ → ℕ → ℕ → ℕ → Stats
figures most all in_use idle waits waited idle_full idle_time lifetime =
    record {
      max_open_connections = most;
      open_connections = all;
      in_use = in_use;
      idle = idle;
      wait_count = waits;
      wait_duration = waited;
      max_idle_closed = idle_full;
      max_idle_time_closed = idle_time;
      max_lifetime_closed = lifetime;
    }

-- Connections 1 and 2 are lent to calls 1 and 2.
abbrev pub two_lent : List Call
two_lent = try 1 ∷ try 2 ∷ Opened 1 ∷ Opened 2 ∷ []

-- Connection 2 came back before connection 1.
abbrev pub two_idle : List Call
two_idle = two_lent ++ GiveBack Good 2 ∷ GiveBack Good 1 ∷ []

-- One connection may be open, and it is lent. Calls 2 and 3 wait.
abbrev pub two_wait : List Call
two_wait = SetOpen (pos 1) ∷ try 1 ∷ Opened 1 ∷ try 2 ∷ try 3 ∷ []

-- Returns the pool after these calls from the start.
abbrev pub from_start : List Call → Pooled
from_start calls = after_all calls fresh

-- Returns connections from number n on, each lent to call 1.
abbrev pub lent_from : ℕ → ℕ → List Conn
lent_from n zero = []
lent_from n (suc k) =
    record { number = n; place = Lent 2 (ForCall 1); lends = 1; uses = 1; created = 0; returned = 0 } ∷ lent_from
    (n + 1) k

-- A pool with a thousand lent connections.
abbrev pub thousand : Pooled
thousand = record fresh { conns = lent_from 1 1000; opened = 1000; drawn = 2000 }
