-- Defines a test on a connection's journal, which has its newest entry first.
use Rattle.std.specs.Prelude.{Bool, false, List, [], ◌∷◌}
use Rattle.dsql_driver.specs.Fits.{is_invalid}
use Rattle.dsql_tenure_journal.specs.declared.entry.Entry.{Entry}

-- Is true if the journal's newest entry is a test that failed.
abbrev pub ends_invalid : List Entry → Bool
ends_invalid [] = false
ends_invalid (e ∷ before) = is_invalid e.answer
