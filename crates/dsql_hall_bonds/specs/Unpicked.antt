-- What a name stands for if nothing is picked for it.
use Rattle.std.specs.Prelude.{[]}
use Rattle.atomic_table.specs.Seated.{TableId}
use Rattle.dsql_history.specs.driver.declared.call.DriverCall.TheVariants.{Connect}
use Rattle.dsql_history.specs.journal.declared.entry.Owner.TheVariants.{House}
use Rattle.dsql_history.specs.journal.declared.entry.Permit.{Permit}
use Rattle.dsql_hall_bonds.specs.Work.{Work}

-- Returns the name of no cell.
abbrev pub no_cell : TableId
no_cell = record { words = 0; slots = 0; views_name = 0; atom = 0; block = 0; offset = 0; slot_names = [] }

-- Returns a permit on no connection.
abbrev pub no_permit : Permit
no_permit = record { conn = 0; tenure = 0; owner = House; call_no = 0; tx = 0; call = Connect }

-- Returns work on no connection.
abbrev pub no_work : Work
no_work = record { conn = 0; permit = no_permit; past = [] }
