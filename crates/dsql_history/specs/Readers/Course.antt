-- Defines the course of a run: what its driver can do, and what closed its database.
use Rattle.std.specs.Prelude.{Option, Some, None, Bool, true, false, List, [], ◌∷◌}
use Rattle.dsql_history.specs.declared.reply.DbEnd.{DbEnd}
use Rattle.dsql_history_work.specs.driver.declared.caps.Caps.{Caps}
use Rattle.dsql_history_work.specs.Caps.{no_caps}
use Rattle.dsql_history.specs.declared.event.Event.{Event}
use Rattle.dsql_history.specs.declared.event.Event.TheVariants.{Run, Entered, Ended}
use Rattle.dsql_history.specs.declared.event.Op.TheVariants.{DbClose}
use Rattle.dsql_history.specs.declared.reply.DbEnd.TheVariants.{Close, EndOfRun}

abbrev pub or_end : Option DbEnd → DbEnd → Option DbEnd
or_end None end = Some end
or_end (Some earlier) end = Some earlier

-- Returns what the driver can do, as the run's first event says.
abbrev pub caps : List Event → Caps
caps [] = no_caps
caps (Run version it ∷ before) = it
caps (_ ∷ before) = caps before

-- Is true if anything has happened.
abbrev pub has_begun : List Event → Bool
has_begun [] = false
has_begun (e ∷ before) = true

-- Is true if the run has ended, which closes the database.
abbrev pub has_ended : List Event → Bool
has_ended [] = false
has_ended (Ended ∷ before) = true
has_ended (_ ∷ before) = has_ended before

-- Returns what closed the database first, if it is closed: a client's call as it entered, or the end of the
-- run.
abbrev pub db_end : List Event → Option DbEnd
db_end [] = None
db_end (Ended ∷ before) = or_end (db_end before) EndOfRun
db_end (Entered client n DbClose ∷ before) = or_end (db_end before) Close
db_end (_ ∷ before) = db_end before
