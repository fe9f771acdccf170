-- What the status says of a run that was asked for its summary, and of a generated script. The argument traces
-- the status back to what stopped the run.
use Rattle.std.proofs.Common.{◌≡◌, ◌⊎◌, ℕ, true, refl, ap, sym, subst, ◌∙◌, inl, inr}
use Rattle.std.specs.Prelude.{Result, Ok, Err}
use Rattle.dsql_hall.specs.driver.Streams.{HasRisen, has_risen}
use Rattle.dsql_script_show.specs.Report.{with_text}
use Rattle.dsql_script_generator.specs.Script.{generated}
use Rattle.dsql_script_source.specs.declared.stop.Stop.{Stop}
use Rattle.dsql_script_source.specs.declared.stop.Stop.TheVariants.{Read}
use Rattle.dsql_run_outcome.specs.Headline.{NotBegun, Seen, SeenNotes}
use Rattle.dsql_run_outcome.specs.Notes.{Tells, is_status}
use Rattle.dsql_run_outcome.specs.Runs.{Finishes, is_write_fault}
use Rattle.dsql_run_outcome.specs.Summing.{GeneratesAndTells, SeenOutput, Summarized, SumsUpAndTells, SumsUpWhole}
use Rattle.dsql_run_outcome.proofs.Telling.{told_of_none, told_is_known, stopped_at_three, stopped_at_four}

summed_of_ran : (stopped told : Result (Unit {0}) Stop) (before after : Seen) (one two : SeenNotes) → stopped ≡ Ok tt → told ≡ Ok tt → two.written ≡ one.written → after.write_faults ≡ before.write_faults → Summarized stopped told before after
    → SumsUpWhole before after one two
summed_of_ran (Err stop) told before after one two is out untold well s = absurd (cc is)
summed_of_ran (Ok done) (Err stop) before after one two is out untold well s = absurd (cc out)
summed_of_ran (Ok done) (Ok all) before after one two is out untold well s = record {
  history = s.ran.history;
  asked = s.ran.asked;
  lines = s.ran.lines;
  legal = s.ran.legal;
  apart = s.ran.apart;
  says = s.ran.plays;
  follows = s.ran.follows refl;
  prefers = s.ran.prefers;
  ended = s.ran.ended refl;
  quiet = s.ran.quiet refl;
  replied = s.ran.replied refl;
  empty = s.ran.empty refl;
  read = s.ran.read refl;
  written = s.written;
  told = s.ran.told refl;
  read_well = s.ran.read_well refl;
  written_well = well;
  untold = untold;
}

-- If nothing stopped the run at last, nothing stopped it before.
ended_well : (stopped told : Result (Unit {0}) Stop) → Finishes stopped told → told ≡ Ok tt → stopped ≡ Ok tt
ended_well stopped told (inl same) is = sym same ∙ is
ended_well stopped told (inr (inl memory)) is = absurd (cc (sym memory ∙ is))
ended_well stopped told (inr (inr write)) is = absurd (cc (sym write.0 ∙ is))

pub summed_at_zero : (before after : Seen) (one two : SeenNotes) (status : ℕ) → status ≡ 0 → SumsUpAndTells before after one two status → SumsUpWhole before after one two
summed_at_zero before after one two status is p =
    let none = told_of_none p.told (has_risen one.faults two.faults) one.written two.written (subst (λ s. Tells p.told (has_risen one.faults two.faults) one.written two.written s) is p.tells) in
    by none.0 none.1 p.ran
  where
    by : p.told ≡ Ok tt → two.written ≡ one.written → Summarized p.stopped p.told before after ⊎ NotBegun p.told before after → SumsUpWhole before after one two
    by out untold (inl s) = summed_of_ran p.stopped p.told before after one two (ended_well p.stopped p.told p.finishes out) out untold (p.written_well (ap is_write_fault out)) s
    by out untold (inr n) = absurd (cc (sym out ∙ n.memory))

-- A run that was asked for its summary has one of the statuses.
pub known_of_sum : (before after : Seen) (one two : SeenNotes) (status : ℕ) → SumsUpAndTells before after one two status → is_status status ≡ true
known_of_sum before after one two status p = told_is_known p.told (has_risen one.faults two.faults) one.written two.written status p.tells

-- If the last stop is a fault of the source, it stopped the run before.
read_well : (stopped told : Result (Unit {0}) Stop) → Finishes stopped told → told ≡ Err Read → stopped ≡ Err Read
read_well stopped told (inl same) is = sym same ∙ is
read_well stopped told (inr (inl memory)) is = absurd (cc (sym memory ∙ is))
read_well stopped told (inr (inr write)) is = absurd (cc (sym write.0 ∙ is))

pub sum_at_three : (before after : Seen) (one two : SeenNotes) (status : ℕ) → status ≡ 3 → SumsUpAndTells before after one two status → HasRisen before.read_faults after.read_faults
sum_at_three before after one two status is p =
    let at : p.told ≡ Err Read = (stopped_at_three p.told (has_risen one.faults two.faults) one.written two.written status is p.tells).0 in
    elim p.ran [ inl s ↦ s.ran.read_fault (read_well p.stopped p.told p.finishes at) | inr n ↦ absurd (cc (sym at ∙ n.memory)) ]

pub sum_at_four : (before after : Seen) (one two : SeenNotes) (status : ℕ) → status ≡ 4 → SumsUpAndTells before after one two status → HasRisen before.write_faults after.write_faults ⊎ HasRisen one.faults two.faults
sum_at_four before after one two status is p =
    elim (stopped_at_four p.told (has_risen one.faults two.faults) one.written two.written status is p.tells) [ inl at ↦ inl (p.write_fault at) | inr notes ↦ inr notes ]

-- The same of a generated script.

pub known_of_lines : (lines : ℕ) (before after : SeenOutput) (one two : SeenNotes) (status : ℕ) → GeneratesAndTells lines before after one two status → is_status status ≡ true
known_of_lines lines before after one two status p = told_is_known p.told (has_risen one.faults two.faults) one.written two.written status p.tells

pub lines_at_zero : (lines : ℕ) (before after : SeenOutput) (one two : SeenNotes) (status : ℕ) → status ≡ 0 → GeneratesAndTells lines before after one two status → after.written ≡ with_text before.written (generated lines)
lines_at_zero lines before after one two status is p =
    let none = told_of_none p.told (has_risen one.faults two.faults) one.written two.written (subst (λ s. Tells p.told (has_risen one.faults two.faults) one.written two.written s) is p.tells) in
    p.whole none.0

pub lines_at_four : (lines : ℕ) (before after : SeenOutput) (one two : SeenNotes) (status : ℕ) → status ≡ 4 → GeneratesAndTells lines before after one two status → HasRisen before.faults after.faults ⊎ HasRisen one.faults two.faults
lines_at_four lines before after one two status is p =
    elim (stopped_at_four p.told (has_risen one.faults two.faults) one.written two.written status is p.tells) [ inl at ↦ inl (p.write_fault at) | inr notes ↦ inr notes ]
