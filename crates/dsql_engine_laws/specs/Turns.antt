-- The turns on lent connections, and the driver calls under way.
use Rattle.std.specs.Prelude.{◌≡◌, ℕ, ◌==◌, Bool, true, not, ◌&&◌, ◌||◌, List, [], ◌∷◌, Option, Some}
use Rattle.std.specs.List.{list_any}
use Rattle.dsql_engine_hearing.specs.pool.declared.conn.Place.{Place}
use Rattle.dsql_engine_hearing.specs.pool.declared.conn.Place.TheVariants.{Lent}
use Rattle.dsql_engine_hearing.specs.history.declared.event.Event.{Event}
use Rattle.dsql_engine_hearing.specs.history.declared.record.Flight.{Flight}
use Rattle.dsql_engine_hearing.specs.history.Readers.Journals.{heard_in}
use Rattle.dsql_engine_hearing.specs.history.Readers.Pool.{place}
use Rattle.dsql_engine_hearing.specs.history.Readers.Unfinished.{is_unfinished}
use Rattle.dsql_engine_hearing.specs.history.Rules.Flights.{has_flight, is_in_flight}
use Rattle.dsql_engine_hearing.specs.history.Rules.Wishes.{newest_sender}
use Rattle.dsql_engine_hearing.specs.going.Stepping.{are_of_unfinished}

abbrev pub sender_in : List Event → ℕ → Option Place → ℕ
sender_in past c (Some (Lent tenure owner)) = newest_sender (heard_in past c tenure)
sender_in past c _ = 0

-- Returns the call that sent the newest driver call of the tenure in which connection c is lent; 0 for none and
-- for the layer.
abbrev pub sender_at : List Event → ℕ → ℕ
sender_at past c = sender_in past c (place past c)

-- Is true if a driver call of call n is under way on connection c.
abbrev pub flies : ℕ → ℕ → List Flight → Bool
flies n c flights = list_any (λ flight. (flight.call == n) && (flight.conn == c)) flights

-- Is true if the call that sent last on a lent connection has its reply, or has a driver call under way there.
abbrev pub keeps_turn : List Event → List Flight → ℕ → Bool
keeps_turn past flights c = not (is_unfinished past (sender_at past c)) || flies (sender_at past c) c flights

-- Is true if no two flights are on one connection, and no two are of one call.
abbrev pub is_apart : List Flight → Bool
is_apart [] = true
is_apart (flight ∷ later) = not (is_in_flight flight.call later || has_flight flight.conn later) && is_apart later

-- Holds if these may be the flights. Each is of a call that has no reply yet. No two are on one connection or of one
-- call. The call that sent last keeps its turn.
pub record Flying (past : List Event) (flights : List Flight) : Type 0 where
  pub known : are_of_unfinished past flights ≡ true
  pub apart : is_apart flights ≡ true
  pub turns : (c : ℕ) → keeps_turn past flights c ≡ true
