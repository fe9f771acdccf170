-- Defines the pool after a history: its fields are the connections, the requests that wait, the limits and the
-- counts.
use Rattle.std.specs.Prelude.{ℕ, ℤ, ◌==◌, Bool, find, Option, Some, None, cond, List, [], ◌∷◌}
use Rattle.std.specs.Option.{option_map, option_map_or}
use Rattle.dsql_pool.specs.declared.conn.Place.{Place}
use Rattle.dsql_pool.specs.declared.conn.Place.TheVariants.{Lent}
use Rattle.dsql_pool.specs.Places.{is_for, conn_of}
use Rattle.dsql_history_work.specs.journal.Kinds.{number_of}
use Rattle.dsql_pool.specs.Pooled.{Pooled, fresh, place_at}
use Rattle.dsql_pool.specs.Moved.{ticked, moved, begun, joined, shut}
use Rattle.dsql_pool.specs.Calls.{open_set, idle_set, lifetime_set, idle_time_set}
use Rattle.dsql_history.specs.declared.event.Setting.{Setting}
use Rattle.dsql_history.specs.declared.event.Setting.TheVariants.{MaxOpen, MaxIdle, MaxLife, MaxIdleTime}
use Rattle.dsql_history.specs.declared.event.Control.{Control}
use Rattle.dsql_history.specs.declared.event.Control.TheVariants.{Tick, Set}
use Rattle.dsql_history_work.specs.journal.declared.entry.Owner.{Owner}
use Rattle.dsql_wait.specs.declared.request.Request.{Request}
use Rattle.dsql_pool.specs.declared.moves.Move.{Move}
use Rattle.dsql_pool.specs.declared.moves.Move.TheVariants.{OpenStart}
use Rattle.dsql_history.specs.Readers.Tries.{asks_last, tries}
use Rattle.dsql_history.specs.declared.event.Event.{Event}
use Rattle.dsql_history.specs.declared.event.Event.TheVariants.{Entered, Pool, Waits, Ticked, SetLimit, Ended}
use Rattle.dsql_history.specs.declared.event.Op.TheVariants.{DbClose}
use Rattle.dsql_history.specs.Readers.Works.{owner_of}

abbrev pub with_limit : Setting → ℤ → Pooled → Pooled
with_limit MaxOpen n p = open_set n p
with_limit MaxIdle n p = idle_set n p
with_limit MaxLife n p = lifetime_set n p
with_limit MaxIdleTime n p = idle_time_set n p

-- Returns the pool at this moment, or with this limit, before the moves that follow from it.
abbrev pub with_control : Control → Pooled → Pooled
with_control (Tick now) p = ticked now p
with_control (Set setting n) p = with_limit setting n p

-- Is true if a connection in this place is being opened for call n, or is lent to an owner with this number.
abbrev pub is_home : ℕ → Place → Bool
is_home n (Lent tenure owner) = number_of owner == n
is_home n place = is_for n place

-- Returns the connection with the smallest number whose place passes the test, if any.
abbrev pub smallest : (Place → Bool) → Pooled → Option ℕ
smallest test p = option_map (λ conn. conn.number) (find (λ conn. test conn.place) p.conns)

abbrev pub or_none : Option ℕ → ℕ
or_none None = 0
or_none (Some c) = c

-- Returns the request of call n at a moment, for a tenure of this owner. It says whether it is for the call's
-- last try.
abbrev pub request_at : Bool → Owner → ℕ → ℕ → Request
request_at last owner n moment = record { call = n; owner = owner; last = last; token = None; asked = moment }

-- Returns the owner for which the pool opens a connection for call n. It is `None` if n is 0, because the pool
-- opens that connection for no call.
abbrev pub wanted_by : List Event → ℕ → Option Owner
wanted_by before n = cond (n == 0) None (Some (owner_of before n))

abbrev pub with_move : List Event → Move → Pooled → Pooled
with_move before (OpenStart c n) p = begun (wanted_by before n) p
with_move before move p = moved move p

-- Returns the pool after call n joins the calls that wait.
abbrev pub joins : List Event → ℕ → Pooled → Pooled
joins before n p = joined (request_at (asks_last (tries before n)) (owner_of before n) n p.moment) p

-- Returns the pool after all events. A call that closes the database shuts the pool as it enters, and so does
-- the end of the run.
abbrev pub pool : List Event → Pooled
pool [] = fresh
pool (Entered client n DbClose ∷ before) = shut (pool before)
pool (Pool move ∷ before) = with_move before move (pool before)
pool (Waits n ∷ before) = joins before n (pool before)
pool (Ticked now ∷ before) = with_control (Tick now) (pool before)
pool (SetLimit setting n ∷ before) = with_control (Set setting n) (pool before)
pool (Ended ∷ before) = shut (pool before)
pool (_ ∷ before) = pool before

-- Returns the request that call n makes at the present moment.
abbrev pub request : List Event → ℕ → Request
request before n = request_at (asks_last (tries before n)) (owner_of before n) n (pool before).moment

-- Returns the place of connection c, if it is open.
abbrev pub place : List Event → ℕ → Option Place
place before c = place_at (pool before) c

-- Returns how often the pool lent connection c to an owner other than the House.
abbrev pub uses : List Event → ℕ → ℕ
uses before c = option_map_or (λ conn. conn.uses) (conn_of c (pool before).conns) 0

-- Returns the connection that is lent to call n or opened for it, 0 if there is none.
abbrev pub home : List Event → ℕ → ℕ
home before n = or_none (smallest (is_home n) (pool before))
