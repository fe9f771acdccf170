-- Defines the rule that each connection's journal is a prefix of a whole journal. A tenure is whole if its
-- connection leaves lent, and the journal is whole if the connection leaves the four sets.
use Rattle.std.specs.Prelude.{ℕ, Bool, true, List, Option, Some}
use Rattle.dsql_history_work.specs.journal.Journal.{may_follow, is_whole}
use Rattle.dsql_history_work.specs.journal.Tenure.{is_whole_tenure}
use Rattle.dsql_pool.specs.declared.conn.Place.{Place}
use Rattle.dsql_pool.specs.declared.conn.Place.TheVariants.{Lent}
use Rattle.dsql_pool.specs.declared.moves.Move.TheVariants.{Back, CloseStart, Gone, Fell}
use Rattle.dsql_history.specs.declared.event.Event.{Event}
use Rattle.dsql_history.specs.declared.event.Event.TheVariants.{Heard, Pool}
use Rattle.dsql_history.specs.Readers.Journals.{journal}
use Rattle.dsql_history.specs.Readers.Pool.{place}

abbrev pub leaves_whole : List Event → ℕ → Option Place → Bool
leaves_whole before c (Some (Lent tenure owner)) = is_whole_tenure tenure (journal before c)
leaves_whole before c _ = true

abbrev pub keeps_journals : List Event → Event → Bool
keeps_journals before (Heard e) = may_follow (journal before e.conn) e
keeps_journals before (Pool (Back c)) = leaves_whole before c (place before c)
keeps_journals before (Pool (CloseStart c cause)) = leaves_whole before c (place before c)
keeps_journals before (Pool (Gone c)) = is_whole (journal before c)
keeps_journals before (Pool (Fell c n)) = is_whole (journal before c)
keeps_journals before _ = true
