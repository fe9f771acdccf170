-- What each client of a script has at hand.
use Rattle.std.specs.Prelude.{ℕ, Bool, false, List, [], Option, None, slice_index_or}
use Rattle.dsql_history.specs.journal.declared.entry.Permit.{Permit}
use Rattle.dsql_player_wires.specs.declared.seats.KeptLine.{KeptLine}

-- What a client has at hand: the permit for its next driver call, its kept lines, the oldest first, and whether its
-- call is held.
pub record Seat : Type 0 where
  pub permit : Option Permit
  pub kept : List KeptLine
  pub held : Bool

abbrev pub empty_seat : Seat
empty_seat = record { permit = None; kept = []; held = false }

-- Returns the seat of a client. A client without a line has nothing at hand.
abbrev pub seat : List Seat → ℕ → Seat
seat seats client = slice_index_or seats client empty_seat

-- Returns the same seat with its call not held.
abbrev pub released : Seat → Seat
released one = record one { held = false }
