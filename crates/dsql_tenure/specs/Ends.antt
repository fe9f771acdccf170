-- Whole ends of a journal.
use Rattle.std.specs.Prelude.{◌+◌, IsTrue, nat_le, List, ◌++◌}
use Rattle.std.specs.List.{list_all}
use Rattle.dsql_tenure_journal.specs.declared.entry.Entry.{Entry}
use Rattle.dsql_tenure_journal.specs.Journal.{IsWhole}
use Rattle.dsql_tenure_journal.specs.Readers.{last_tenure}

-- Holds if entries can come later that make the journal whole, in its last tenure and that of the next number.
abbrev pub HasWholeEnd : List Entry → Type 0
HasWholeEnd journal =
    (later : List Entry) × IsWhole (later ++ journal)
    × IsTrue (list_all (λ x. nat_le x.tenure (last_tenure journal + 1)) later)
