-- How often the calls of a run and the kept lines of its clients make a label.
use Rattle.std.specs.Prelude.{ℕ, ◌+◌, ◌≤◌, List, [], ◌∷◌}
use Rattle.dsql_engine_laws.specs.history.declared.event.Event.{Event}
use Rattle.dsql_engine_laws.specs.follows.Labels.{times_by, times_made}
use Rattle.dsql_player_wires.specs.declared.seats.KeptLine.{KeptLine}
use Rattle.dsql_player_wires.specs.Seats.{Seat}

-- Returns how often these kept lines make the label.
abbrev pub times_kept : List ℕ → List KeptLine → ℕ
times_kept label [] = 0
times_kept label (line ∷ lines) = times_by label line.op + times_kept label lines

-- Returns how often the lines that all clients keep make the label.
abbrev pub times_at_hand : List ℕ → List Seat → ℕ
times_at_hand label [] = 0
times_at_hand label (seat ∷ seats) = times_kept label seat.kept + times_at_hand label seats

-- Returns how often calls that have entered and kept lines make the label.
abbrev pub times : List ℕ → List Event → List Seat → ℕ
times label past seats = times_made label past + times_at_hand label seats

-- Holds if calls, kept lines and what makes a label as often as `more` returns make each label at most once together.
abbrev pub MakeOnce : (List ℕ → ℕ) → List Event → List Seat → Type 0
MakeOnce more past seats = (label : List ℕ) → more label + times label past seats ≤ 1
