-- Defines the moves among the four sets, the numbers of tenures, and which answers may come in which set.
use Rattle.std.specs.Prelude.{◌==◌, Bool, true, false, not, ◌&&◌, ◌||◌, List, Option, Some}
use Rattle.dsql_history_work.specs.journal.declared.entry.Entry.{Entry}
use Rattle.dsql_history_work.specs.journal.Kinds.{is_house, same_owner, number_of}
use Rattle.dsql_history_work.specs.driver.Kinds.{is_connect, is_shut}
use Rattle.dsql_pool.specs.declared.conn.Place.{Place}
use Rattle.dsql_pool.specs.declared.conn.Place.TheVariants.{Opening, Lent, Closing}
use Rattle.dsql_pool.specs.declared.moves.Move.{Move}
use Rattle.dsql_pool.specs.declared.moves.Move.TheVariants.{OpenStart, Lend, Back, CloseStart, Gone, Fell}
use Rattle.dsql_pool.specs.Places.{is_opening, is_idle, is_lent, is_closing}
use Rattle.dsql_pool.specs.Pooled.{Pooled, next_number, next_tenure, place_at}
use Rattle.dsql_history.specs.declared.event.Event.{Event}
use Rattle.dsql_history.specs.declared.event.Event.TheVariants.{Heard, Pool}
use Rattle.dsql_history.specs.Readers.Pool.{pool, place}

-- Is true if the move starts from the right set. OpenStart puts the next new number into opening. Lend moves
-- from idle or opening to lent; Back from lent or opening to idle; CloseStart from idle, lent or opening to
-- closing. Gone takes out of closing; Fell takes out of opening.
abbrev pub moves_from : Pooled → Move → Bool
moves_from p (OpenStart c n) = c == next_number p
moves_from p (Lend c tenure owner n) = is_idle (place_at p c) || is_opening (place_at p c)
moves_from p (Back c) = is_lent (place_at p c) || is_opening (place_at p c)
moves_from p (CloseStart c cause) = is_idle (place_at p c) || (is_lent (place_at p c) || is_opening (place_at p c))
moves_from p (Gone c) = is_closing (place_at p c)
moves_from p (Fell c n) = is_opening (place_at p c)

-- Is true if the move numbers its lending correctly. A connection's kth lending has tenure k + 1. The call of a
-- lending is its owner's number, 0 for the House.
abbrev pub numbers_lending : Pooled → Move → Bool
numbers_lending p (Lend c tenure owner n) = (tenure == next_tenure p c) && (n == number_of owner)
numbers_lending p _ = true

abbrev pub is_house_entry : Entry → Bool
is_house_entry e = is_house e.owner && (e.call_no == 0)

-- Is true if the entry may come from a connection in this place. A Connect comes only from an opening
-- connection, in tenure 1. A Shut comes only from a closing one, in the tenure after its last. Every other
-- driver call comes only from a lent one, with the tenure and owner of its last lending.
abbrev pub hears_in : Pooled → Option Place → Entry → Bool
hears_in p (Some (Opening wanted)) e = is_connect e.call && ((e.tenure == 1) && is_house_entry e)
hears_in p (Some Closing) e = is_shut e.call && ((e.tenure == next_tenure p e.conn) && is_house_entry e)
hears_in p (Some (Lent tenure owner)) e =
    not (is_connect e.call || is_shut e.call) && ((e.tenure == tenure) && same_owner e.owner owner)
hears_in p _ e = false

abbrev pub keeps_sets : List Event → Event → Bool
keeps_sets before (Pool move) = moves_from (pool before) move && numbers_lending (pool before) move
keeps_sets before (Heard e) = hears_in (pool before) (place before e.conn) e
keeps_sets before _ = true
