-- Defines how a wire reports its connection's journal.
use Rattle.std.specs.Prelude.{ℕ, ◌≡◌, List, [], ◌∷◌, ◌++◌}
use Rattle.dsql_driver.specs.Wires.{Told, WireTold}
use Rattle.dsql_tenure_journal.specs.declared.entry.Entry.{Entry}

-- Returns the calls of a journal with their answers, oldest first.
abbrev pub told_of : List Entry → List Told
told_of [] = []
told_of (e ∷ before) = told_of before ++ (e.call, e.answer) ∷ []

-- Holds if the wire's report is its connection's number and the calls of the connection's journal.
pub record TellsOf (conn : ℕ) (journal : List Entry) (told : WireTold) : Type 0 where
  pub number : told.number ≡ conn
  pub calls : told.calls ≡ told_of journal
