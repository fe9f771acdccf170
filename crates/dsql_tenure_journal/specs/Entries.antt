-- The entries of the house that every journal has: its Connect and its Shut.
use Rattle.std.specs.Prelude.{ℕ}
use Rattle.dsql_driver.specs.declared.call.DriverCall.{DriverCall}
use Rattle.dsql_driver.specs.declared.call.DriverCall.TheVariants.{Connect, Shut}
use Rattle.dsql_driver.specs.declared.answer.DriverAnswer.{DriverAnswer}
use Rattle.dsql_tenure_journal.specs.declared.entry.Entry.{Entry}
use Rattle.dsql_tenure_journal.specs.declared.entry.Owner.TheVariants.{House}

-- Returns an entry of the house in tenure t of connection c.
abbrev pub house_entry : ℕ → ℕ → DriverCall → DriverAnswer → Entry
house_entry c t call answer =
    record { conn = c; tenure = t; owner = House; call_no = 0; tx = 0; call = call; answer = answer }

-- Returns the Connect of connection c.
abbrev pub connect_entry : ℕ → DriverAnswer → Entry
connect_entry c answer = house_entry c 1 Connect answer

-- Returns the Shut of connection c in tenure t.
abbrev pub shut_entry : ℕ → ℕ → DriverAnswer → Entry
shut_entry c t answer = house_entry c t Shut answer
