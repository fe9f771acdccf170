-- What a server may have carried out for transactions: their begins and their ends.
use Rattle.std.specs.Prelude.{ℕ, ◌==◌, ◌+◌, Bool, not, ◌&&◌, cond, List, [], ◌∷◌}
use Rattle.dsql_laws_calls.specs.driver.Kinds.{is_bad, is_begin, is_ending}
use Rattle.dsql_laws_calls.specs.journal.declared.entry.Entry.{Entry}
use Rattle.dsql_laws_calls.specs.journal.Kinds.{number_of}
use Rattle.dsql_laws_calls.specs.history.declared.event.Event.{Event}
use Rattle.dsql_laws_calls.specs.history.declared.event.Event.TheVariants.{Heard}

-- Is true if a server may have begun a transaction: the entry is a `Begin` and its answer isn't that the
-- connection is bad.
abbrev pub may_have_begun : Entry → Bool
may_have_begun e = is_begin e.call && not (is_bad e.answer)

-- Returns how many such entries call n has.
abbrev pub begun_by : List Event → ℕ → ℕ
begun_by [] n = 0
begun_by (Heard e ∷ before) n = cond ((e.call_no == n) && may_have_begun e) (begun_by before n + 1) (begun_by before n)
begun_by (_ ∷ before) n = begun_by before n

-- Returns how many `Commit`s and `Rollback`s were answered in tenures of the transaction that call k begins,
-- whoever sent them and whatever the answers were.
abbrev pub endings : List Event → ℕ → ℕ
endings [] k = 0
endings (Heard e ∷ before) k =
    cond ((number_of e.owner == k) && is_ending e.call) (endings before k + 1) (endings before k)
endings (_ ∷ before) k = endings before k
