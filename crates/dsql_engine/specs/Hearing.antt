-- Which answers may be brought back.
use Rattle.std.specs.Prelude.{◌≡◌, ◌==◌, ℕ, Bool, true, false, ◌&&◌, cond, Option, Some, None}
use Rattle.std.specs.List.{list_any}
use Rattle.dsql_engine_hearing.specs.journal.declared.entry.Entry.{Entry}
use Rattle.dsql_engine_hearing.specs.Hearing.{IsWelcome}
use Rattle.dsql_engine.specs.Core.{Core}

abbrev pub is_on : ℕ → Option ℕ → Bool
is_on c None = false
is_on c (Some d) = d == c

-- Is true if a driver call for call n is under way on connection c. Call 0 is the layer.
abbrev pub is_under_way : Core → ℕ → ℕ → Bool
is_under_way core n c =
    cond (n == 0) (is_on c core.chore) (list_any (λ flight. (flight.call == n) && (flight.conn == c)) core.flights)

-- Holds if this answer may be brought back: its driver call is under way, and the answer is welcome.
pub record MayBeHeard (core : Core) (e : Entry) : Type 0 where
  pub flight : is_under_way core e.call_no e.conn ≡ true
  pub welcome : IsWelcome core.past e
