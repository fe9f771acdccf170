-- What contracts see of a judge, and what it returns.
use Rattle.std.specs.Prelude.{◌≡◌, ℕ, ◌+◌, false, IsTrue, List, ◌∷◌, length, if◌then◌else◌}
use Rattle.dsql_driver.specs.declared.answer.DriverAnswer.{DriverAnswer}
use Rattle.dsql_driver.specs.Fits.{is_done}
use Rattle.dsql_tenure_journal.specs.declared.entry.Entry.{Entry}
use Rattle.dsql_tenure_journal.specs.declared.entry.Permit.{Permit}
use Rattle.dsql_driver.specs.Kinds.{is_begin}
use Rattle.dsql_tenure_journal.specs.Permits.{entry_of}
use Rattle.dsql_tenure_journal.specs.Readers.{handles, cursors, begun, last_tenure}
use Rattle.dsql_tenure_journal.specs.HandlesAndCursors.{fits_at_its_place}
use Rattle.dsql_tenure.specs.declared.fault.JudgeFault.{JudgeFault}
use Rattle.dsql_tenure.specs.declared.fault.JudgeFault.TheVariants.{Stray, Memory}
use Rattle.dsql_tenure.specs.Beginnings.{is_beginning_of, IsBeginningOf, phase}

-- A judge: its connection, the journal so far, the newest entry first, and for how many entries there is
-- memory.
pub record Judged : Type 0 where
  pub conn : ℕ
  pub journal : List Entry
  pub spare : ℕ

-- Holds if the fault says why the judge didn't take the entry. Either the journal with the entry is no
-- beginning of a whole one, or it is one and there was no memory.
abbrev pub Refuses : Judged → Entry → JudgeFault → Type 0
Refuses judge entry (Stray where_it_stands tenure) =
    (is_beginning_of judge.conn (entry ∷ judge.journal) ≡ false) × (where_it_stands ≡ phase judge.journal)
    × (tenure ≡ last_tenure judge.journal)
Refuses judge entry Memory = IsBeginningOf judge.conn (entry ∷ judge.journal) × (judge.spare ≡ 0)

-- Returns the entry that an answer makes of a permit. A Begin that wasn't answered Done makes no transaction.
abbrev pub answered : Permit → DriverAnswer → Entry
answered permit answer =
    if is_begin permit.call then (if is_done answer then entry_of permit answer else record
    (entry_of permit answer) { tx = 0 }) else entry_of permit answer

-- Holds if each answer that fits the permit's call at its place makes a beginning of a whole journal.
abbrev pub MaySend : Judged → Permit → Type 0
MaySend judge permit =
    (answer : DriverAnswer) → IsTrue (fits_at_its_place judge.journal (answered permit answer))
    → IsBeginningOf judge.conn (answered permit answer ∷ judge.journal)

-- Returns how much is kept: live handles, live cursors, and the numbers of the transactions begun.
abbrev pub kept : List Entry → ℕ
kept journal = length (handles journal) + length (cursors journal) + length (begun journal)
