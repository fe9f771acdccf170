-- The journals of one connection: their beginnings, and where they stand.
use Rattle.std.specs.Prelude.{ℕ, Bool, true, false, ◌&&◌, not, ◌==◌, IsTrue, List, [], ◌∷◌, if◌then◌else◌}
use Rattle.std.specs.List.{list_all, list_any}
use Rattle.dsql_tenure_journal.specs.declared.entry.Entry.{Entry}
use Rattle.dsql_tenure_journal.specs.declared.entry.Owner.{Owner}
use Rattle.dsql_tenure_journal.specs.declared.entry.Owner.TheVariants.{Tx, Pin}
use Rattle.dsql_tenure_journal.specs.Kinds.{is_house}
use Rattle.dsql_driver.specs.Kinds.{is_reset, is_valid, is_shut, is_bad}
use Rattle.dsql_tenure_journal.specs.Readers.{has, of_tenure, begun, ended, went_bad}
use Rattle.dsql_tenure_journal.specs.Journal.{is_journal_prefix}
use Rattle.dsql_tenure.specs.declared.fault.Phase.{Phase}
use Rattle.dsql_tenure.specs.declared.fault.Phase.TheVariants.{Before, Between, Inside, After}

-- Is true if the journal is a beginning of a whole journal of the connection.
abbrev pub is_beginning_of : ℕ → List Entry → Bool
is_beginning_of conn journal = is_journal_prefix journal && list_all (λ x. x.conn == conn) journal

abbrev pub IsBeginningOf : ℕ → List Entry → Type 0
IsBeginningOf conn journal = IsTrue (is_beginning_of conn journal)

-- Is true if a tenure of this owner can have a further entry after a Bad answer. That is the end of its transaction, or
-- an entry of a pinned connection.
abbrev pub can_grow_when_bad : Owner → List Entry → Bool
can_grow_when_bad (Tx number) journal = has number (begun journal) && not (has number (ended journal))
can_grow_when_bad (Pin number) journal = true
can_grow_when_bad _ journal = false

-- Is true if the last tenure can have a further entry.
abbrev pub can_grow : List Entry → Bool
can_grow [] = false
can_grow (entry ∷ before) =
    let journal : List Entry = entry ∷ before in
    not (list_any (λ x. is_valid x.call) (of_tenure entry.tenure journal))
    && not (list_any (λ x. is_reset x.call && is_bad x.answer) (of_tenure entry.tenure journal))
    && (if went_bad journal then can_grow_when_bad entry.owner journal else not (is_house entry.owner))

-- Returns where the journal stands: no Connect was heard yet, Shut was heard, the last tenure can grow, or none
-- can.
abbrev pub phase : List Entry → Phase
phase [] = Before
phase (entry ∷ before) = if is_shut entry.call then After else if can_grow (entry ∷ before) then Inside else Between
