-- The pool as one value, and what follows from it.
use Rattle.std.specs.Prelude.{ℕ, Bool, false, not, ◌==◌, ◌&&◌, nat_le, cond, ◌+◌, ◌-◌, List, [], Option, length, filter, count_by}
use Rattle.dsql_time.specs.declared.Limits.{Limits}
use Rattle.dsql_time.specs.Limits.{standard_max_idle}
use Rattle.dsql_wait.specs.declared.request.Request.{Request}
use Rattle.dsql_pool.specs.declared.conn.Place.{Place}
use Rattle.dsql_pool.specs.declared.conn.Conn.{Conn}
use Rattle.dsql_pool.specs.declared.moves.Move.{Move}
use Rattle.dsql_pool.specs.declared.pool.TheConstants.{MOST_OPEN}
use Rattle.dsql_pool.specs.declared.stats.Counts.{Counts}
use Rattle.dsql_pool.specs.declared.stats.Stats.{Stats}
use Rattle.dsql_pool.specs.Counted.{no_counts}
use Rattle.dsql_pool.specs.Places.{place_of, lends_of, is_free}

pub record Pooled : Type 0 where
  -- The open connections, in the order in which they began to be opened.
  pub conns : List Conn
  -- How many connections were opened so far. They are numbered from 1.
  pub opened : ℕ
  -- The idle connections, the longest idle first.
  pub idle : List ℕ
  -- The requests that wait, the oldest first.
  pub waiting : List Request
  pub limits : Limits
  -- The present moment, in nanoseconds.
  pub moment : ℕ
  pub closed : Bool
  pub counts : Counts
  -- How many openings and lendings have begun.
  pub drawn : ℕ

-- A pool, the moves that its newest call made, for how many more calls there is memory, and for how many moves
-- of one call.
pub record Table : Type 0 where
  pub pooled : Pooled
  pub moves : List Move
  pub spare : ℕ
  pub capacity : ℕ

-- The standard limits: a few idle connections are kept, and nothing else is limited.
abbrev pub standard : Limits
standard = record { max_open = 0; max_idle = standard_max_idle; lifetime = 0; idle_time = 0 }

-- A pool in which nothing has happened.
abbrev pub fresh : Pooled
fresh =
    record {
      conns = [];
      opened = 0;
      idle = [];
      waiting = [];
      limits = standard;
      moment = 0;
      closed = false;
      counts = no_counts;
      drawn = 0;
    }

-- Returns the place of a connection, if it is open.
abbrev pub place_at : Pooled → ℕ → Option Place
place_at p c = place_of c p.conns

abbrev pub open_count : Pooled → ℕ
open_count p = length p.conns

-- Returns how many connections are being opened for no request of their own.
abbrev pub free_openings : Pooled → ℕ
free_openings p = count_by (λ conn. is_free conn.place) p.conns

-- Returns the number of the next opening.
abbrev pub next_number : Pooled → ℕ
next_number p = p.opened + 1

-- Returns the number of the next tenure of a connection. Its Connect has 1, its kth lending k + 1, and its Shut
-- the number after the last.
abbrev pub next_tenure : Pooled → ℕ → ℕ
next_tenure p c = lends_of c p.conns + 2

-- The most connections that are open at a time, whatever the limits are.
abbrev pub most_open : ℕ
most_open = MOST_OPEN

-- The most moves of a call beside its closings of idle connections: one, and the openings that are due.
abbrev pub most_other_moves : ℕ
most_other_moves = most_open + 1

-- The most openings and lendings that may have begun before a call. The numbers of connections and tenures then fit 32
-- bits after it too.
abbrev pub most_drawn : ℕ
most_drawn = 4000000000

-- The bound below which openings and lendings stay within a call. A tenure's number may exceed their count by
-- two.
abbrev pub most_drawn_within_a_call : ℕ
most_drawn_within_a_call = 4294967290

-- Is true if the open limit may be reached.
abbrev pub is_limited : Pooled → Bool
is_limited p = nat_le 1 p.limits.max_open && nat_le p.limits.max_open most_open

-- Returns how many connections may be open.
abbrev pub most_allowed : Pooled → ℕ
most_allowed p = cond (is_limited p) p.limits.max_open most_open

abbrev pub without : ℕ → List ℕ → List ℕ
without n ns = filter (λ m. not (m == n)) ns

abbrev pub stats : Pooled → Stats
stats p =
    record {
      max_open_connections = p.limits.max_open;
      open_connections = open_count p;
      in_use = open_count p - length p.idle;
      idle = length p.idle;
      wait_count = p.counts.waits;
      wait_duration = p.counts.waited;
      max_idle_closed = p.counts.idle_full;
      max_idle_time_closed = p.counts.idle_time;
      max_lifetime_closed = p.counts.lifetime;
    }
