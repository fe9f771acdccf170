-- Defines what becomes of a connection that is given back. Every other move is owed.
use Rattle.std.specs.Prelude.{ℕ, Bool, true, not, ◌&&◌, ◌||◌, List, Option, Some}
use Rattle.dsql_history_work.specs.journal.Readers.{is_empty}
use Rattle.dsql_history_work.specs.journal.Kinds.{number_of}
use Rattle.dsql_pool.specs.declared.conn.Place.{Place}
use Rattle.dsql_pool.specs.declared.conn.Place.TheVariants.{Lent}
use Rattle.dsql_pool.specs.declared.moves.Move.{Move}
use Rattle.dsql_pool.specs.declared.moves.Move.TheVariants.{Back, CloseStart, Gone, Fell}
use Rattle.dsql_pool.specs.Places.{is_lent}
use Rattle.dsql_history.specs.declared.event.Event.{Event}
use Rattle.dsql_history.specs.declared.event.Event.TheVariants.{Pool}
use Rattle.dsql_history.specs.Same.{is_first}
use Rattle.dsql_history.specs.Readers.Pool.{place}
use Rattle.dsql_history.specs.Readers.Owed.{given_back, owed}
use Rattle.dsql_history.specs.Readers.Calls.{rests}
use Rattle.dsql_history.specs.Rules.Settled.{is_settled_but}

-- Is true if a connection in this place may go back at this point. A call that rests with its connection gives
-- it back in a step of its own.
abbrev pub goes_in_turn : List Event → Option Place → Bool
goes_in_turn before (Some (Lent tenure owner)) =
    not (rests before (number_of owner)) || is_settled_but (number_of owner) before
goes_in_turn before _ = true

-- Is true if the connection is lent, and this move follows because it is given back.
abbrev pub is_given_back : List Event → ℕ → Move → Bool
is_given_back before c move =
    is_lent (place before c) && (goes_in_turn before (place before c) && is_first (given_back before c) move)

abbrev pub is_owed : List Event → Bool
is_owed before = not (is_empty (owed before))

abbrev pub keeps_causes : List Event → Event → Bool
keeps_causes before (Pool (Back c)) = is_owed before || is_given_back before c (Back c)
keeps_causes before (Pool (CloseStart c cause)) = is_owed before || is_given_back before c (CloseStart c cause)
keeps_causes before (Pool (Gone c)) = is_owed before
keeps_causes before (Pool (Fell c n)) = is_owed before
keeps_causes before _ = true
