-- Defines which driver calls are in flight, the oldest first, and which calls they keep from going on.
use Rattle.std.specs.Prelude.{ℕ, ◌==◌, Bool, true, false, not, ◌&&◌, ◌||◌, cond, List, [], ◌∷◌, ◌++◌, filter, Option, Some}
use Rattle.std.specs.List.{list_any}
use Rattle.dsql_history.specs.declared.record.Flight.{Flight}
use Rattle.dsql_history.specs.declared.record.Stand.{Stand}
use Rattle.dsql_history.specs.declared.record.Stand.TheVariants.{Waits, Opens, Sends}

abbrev pub is_in_flight : ℕ → List Flight → Bool
is_in_flight n flights = list_any (λ flight. flight.call == n) flights

abbrev pub has_flight : ℕ → List Flight → Bool
has_flight c flights = list_any (λ flight. flight.conn == c) flights

-- Returns the flights with a permit of call n on connection c added. It adds none if the call or the connection
-- has one already.
abbrev pub with_flight : ℕ → ℕ → List Flight → List Flight
with_flight n c flights =
    cond (is_in_flight n flights || has_flight c flights) flights (flights ++ record { call = n; conn = c } ∷ [])

-- Returns the flights after call n, which stands like this, takes a permit. It takes one only if its driver
-- call is due.
abbrev pub permitted : ℕ → Option Stand → List Flight → List Flight
permitted n (Some (Sends c)) flights = with_flight n c flights
permitted n _ flights = flights

-- Returns the flights without the permit of call n. A permit is in flight until its answer is heard.
abbrev pub without_flight : ℕ → List Flight → List Flight
without_flight n flights = filter (λ flight. not (flight.call == n)) flights

-- Is true if the permit of another call is in flight on connection c.
abbrev pub is_taken : ℕ → ℕ → List Flight → Bool
is_taken n c flights = list_any (λ flight. (flight.conn == c) && not (flight.call == n)) flights

-- Is true if call n, which stands like this, is blocked. It waits, a connection is being opened for it, or the
-- permit of another call is in flight on the connection of its driver call.
abbrev pub is_blocked : List Flight → ℕ → Option Stand → Bool
is_blocked flights n (Some Waits) = true
is_blocked flights n (Some (Opens c)) = true
is_blocked flights n (Some (Sends c)) = is_taken n c flights
is_blocked flights n it = false
