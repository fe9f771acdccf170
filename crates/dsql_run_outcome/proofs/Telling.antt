-- What the status says of a run. The argument traces the status back to what stopped the run.
use Rattle.std.proofs.Common.{◌≡◌, ◌⊎◌, ℕ, Bool, true, List, Option, refl, ap, sym, subst, ◌∙◌, inl, inr}
use Rattle.std.specs.Prelude.{Result, Ok, Err}
use Rattle.dsql_hall.specs.driver.Streams.{HasRisen, has_risen}
use Rattle.dsql_script_forms.specs.declared.fault.LineFault.{LineFault}
use Rattle.dsql_run_outcome.specs.Notes.{note_of, status_of, is_status, failed_status, Tells}
use Rattle.dsql_script_show.specs.Report.{with_text}
use Rattle.dsql_run_outcome.specs.Headline.{Seen, SeenNotes, Ran, NotBegun, RunsAndTells, RunsWhole, RefusesWords, report}
use Rattle.dsql_script_show.specs.declared.showing.ShowFault.{ShowFault}
use Rattle.dsql_script_show.specs.declared.showing.ShowFault.TheVariants as shows
use Rattle.dsql_script_source.specs.declared.stop.Stop.{Stop}
use Rattle.dsql_script_source.specs.declared.stop.Stop.TheVariants.{Read, Write, Memory, Refused, Full}

no_stop : (stop : Stop) → status_of stop ≡ 0 → ⊥
no_stop Read is = cc is
no_stop _ is = cc is

no_cut : (stop : Stop) (fault : ShowFault) → failed_status stop fault ≡ 0 → ⊥
no_cut stop shows.Memory is = cc is
no_cut Read shows.Failed is = cc is
no_cut Write shows.Failed is = cc is
no_cut Memory shows.Failed is = cc is
no_cut (Refused number fault) shows.Failed is = cc is
no_cut Full shows.Failed is = cc is

pub told_of_none : (stopped : Result (Unit {0}) Stop) (risen : Bool) (w now : Option (List ℕ)) → Tells stopped risen w now 0 → (stopped ≡ Ok tt) × (now ≡ w)
told_of_none (Ok done) risen w now told = (refl, told.1)
told_of_none (Err stop) risen w now (inl all) = absurd (no_stop stop (sym all.status_is))
told_of_none (Err stop) risen w now (inr part) = absurd (no_cut stop part.fault (sym part.status_is))

whole_of_ran : (race : Bool) (stopped : Result (Unit {0}) Stop) (before after : Seen) (one two : SeenNotes) → stopped ≡ Ok tt → two.written ≡ one.written → Ran race stopped before after → RunsWhole race report before after one two
whole_of_ran race (Err stop) before after one two is untold r = absurd (cc is)
whole_of_ran race (Ok done) before after one two is untold r = record {
  history = r.history;
  asked = r.asked;
  lines = r.lines;
  legal = r.legal;
  apart = r.apart;
  says = r.plays;
  follows = r.follows refl;
  prefers = r.prefers;
  ended = r.ended refl;
  quiet = r.quiet refl;
  replied = r.replied refl;
  empty = r.empty refl;
  read = r.read refl;
  written = r.writes;
  told = r.told refl;
  read_well = r.read_well refl;
  written_well = r.written_well refl;
  untold = untold;
}

whole_of : (race : Bool) (stopped : Result (Unit {0}) Stop) (before after : Seen) (one two : SeenNotes) → stopped ≡ Ok tt → two.written ≡ one.written → Ran race stopped before after ⊎ NotBegun stopped before after
    → RunsWhole race report before after one two
whole_of race stopped before after one two is untold (inl r) = whole_of_ran race stopped before after one two is untold r
whole_of race stopped before after one two is untold (inr n) = absurd (cc (sym is ∙ n.memory))

-- Status 0 means that the whole script was played.
pub whole_at_zero : (race : Bool) (before after : Seen) (one two : SeenNotes) (status : ℕ) → status ≡ 0 → RunsAndTells race before after one two status → RunsWhole race report before after one two
whole_at_zero race before after one two status is p =
    let none = told_of_none p.stopped (has_risen one.faults two.faults) one.written two.written (subst (λ s. Tells p.stopped (has_risen one.faults two.faults) one.written two.written s) is p.told) in
    whole_of race p.stopped before after one two none.0 none.1 p.ran

status_is_known : (stop : Stop) → is_status (status_of stop) ≡ true
status_is_known Read = refl
status_is_known _ = refl

failed_status_is_known : (stop : Stop) (fault : ShowFault) → is_status (failed_status stop fault) ≡ true
failed_status_is_known stop shows.Memory = refl
failed_status_is_known Read shows.Failed = refl
failed_status_is_known Write shows.Failed = refl
failed_status_is_known Memory shows.Failed = refl
failed_status_is_known (Refused number fault) shows.Failed = refl
failed_status_is_known Full shows.Failed = refl

pub told_is_known : (stopped : Result (Unit {0}) Stop) (risen : Bool) (w now : Option (List ℕ)) (status : ℕ) → Tells stopped risen w now status → is_status status ≡ true
told_is_known (Ok done) risen w now status told = rw told.0 refl
told_is_known (Err stop) risen w now status (inl all) = rw all.status_is (status_is_known stop)
told_is_known (Err stop) risen w now status (inr part) = rw part.status_is (failed_status_is_known stop part.fault)

-- A run has one of the statuses.
pub known_of_run : (race : Bool) (before after : Seen) (one two : SeenNotes) (status : ℕ) → RunsAndTells race before after one two status → is_status status ≡ true
known_of_run race before after one two status p = told_is_known p.stopped (has_risen one.faults two.faults) one.written two.written status p.told

pub known_of_words : (one two : SeenNotes) (status : ℕ) → RefusesWords one two status → is_status status ≡ true
known_of_words one two status r = elim r.status_is [ inl done ↦ rw done refl | inr cut ↦ rw cut refl ]

read_of_status : (stop : Stop) → status_of stop ≡ 3 → stop ≡ Read
read_of_status Read is = refl
read_of_status _ is = absurd (cc is)

three_of_no_cut : (stop : Stop) (fault : ShowFault) → failed_status stop fault ≡ 3 → ⊥
three_of_no_cut stop shows.Memory is = cc is
three_of_no_cut Read shows.Failed is = cc is
three_of_no_cut Write shows.Failed is = cc is
three_of_no_cut Memory shows.Failed is = cc is
three_of_no_cut (Refused number fault) shows.Failed is = cc is
three_of_no_cut Full shows.Failed is = cc is

pub stopped_at_three : (stopped : Result (Unit {0}) Stop) (risen : Bool) (w now : Option (List ℕ)) (status : ℕ) → status ≡ 3 → Tells stopped risen w now status → (stopped ≡ Err Read) × (now ≡ with_text w (note_of Read))
stopped_at_three (Ok done) risen w now status is told = absurd (cc (sym is ∙ told.0))
stopped_at_three (Err stop) risen w now status is (inl all) =
    let read : stop ≡ Read = read_of_status stop (sym all.status_is ∙ is) in
    (ap Err read, all.told ∙ ap (λ s. with_text w (note_of s)) read)
stopped_at_three (Err stop) risen w now status is (inr part) = absurd (three_of_no_cut stop part.fault (sym part.status_is ∙ is))

-- Status 3 comes from a fault of the source.
pub read_fault_at_three : (race : Bool) (before after : Seen) (one two : SeenNotes) (status : ℕ) → status ≡ 3 → RunsAndTells race before after one two status → HasRisen before.read_faults after.read_faults
read_fault_at_three race before after one two status is p =
    let at : p.stopped ≡ Err Read = (stopped_at_three p.stopped (has_risen one.faults two.faults) one.written two.written status is p.told).0 in
    elim p.ran [ inl r ↦ r.read_fault at | inr n ↦ absurd (cc (sym at ∙ n.memory)) ]

write_of_status : (stop : Stop) → status_of stop ≡ 4 → stop ≡ Write
write_of_status Write is = refl
write_of_status _ is = absurd (cc is)

failed_at_four : (stop : Stop) (fault : ShowFault) → failed_status stop fault ≡ 4 → fault ≡ shows.Failed
failed_at_four stop shows.Memory is = absurd (cc is)
failed_at_four stop shows.Failed is = refl

pub stopped_at_four : (stopped : Result (Unit {0}) Stop) (risen : Bool) (w now : Option (List ℕ)) (status : ℕ) → status ≡ 4 → Tells stopped risen w now status → (stopped ≡ Err Write) ⊎ (risen ≡ true)
stopped_at_four (Ok done) risen w now status is told = absurd (cc (sym is ∙ told.0))
stopped_at_four (Err stop) risen w now status is (inl all) = inl (ap Err (write_of_status stop (sym all.status_is ∙ is)))
stopped_at_four (Err stop) risen w now status is (inr part) = inr (part.caused (failed_at_four stop part.fault (sym part.status_is ∙ is)))

-- Status 4 comes from a fault of the output or of the notes.
pub write_fault_at_four : (race : Bool) (before after : Seen) (one two : SeenNotes) (status : ℕ) → status ≡ 4 → RunsAndTells race before after one two status
    → HasRisen before.write_faults after.write_faults ⊎ HasRisen one.faults two.faults
write_fault_at_four race before after one two status is p =
    elim (stopped_at_four p.stopped (has_risen one.faults two.faults) one.written two.written status is p.told) [
      | inl at ↦ inl (elim p.ran [ inl r ↦ r.write_fault at | inr n ↦ absurd (cc (sym at ∙ n.memory)) ])
      | inr notes ↦ inr notes
    ]

refused_of_status : (stop : Stop) → status_of stop ≡ 7 → (number : ℕ) × (fault : LineFault) × (stop ≡ Refused number fault)
refused_of_status (Refused number fault) is = (number, fault, refl)
refused_of_status _ is = absurd (cc is)

seven_of_no_cut : (stop : Stop) (fault : ShowFault) → failed_status stop fault ≡ 7 → ⊥
seven_of_no_cut stop shows.Memory is = cc is
seven_of_no_cut Read shows.Failed is = cc is
seven_of_no_cut Write shows.Failed is = cc is
seven_of_no_cut Memory shows.Failed is = cc is
seven_of_no_cut (Refused number fault) shows.Failed is = cc is
seven_of_no_cut Full shows.Failed is = cc is

pub stopped_at_seven : (stopped : Result (Unit {0}) Stop) (risen : Bool) (w now : Option (List ℕ)) (status : ℕ) → status ≡ 7 → Tells stopped risen w now status
    → (number : ℕ) × (fault : LineFault) × (stopped ≡ Err (Refused number fault)) × (now ≡ with_text w (note_of (Refused number fault)))
stopped_at_seven (Ok done) risen w now status is told = absurd (cc (sym is ∙ told.0))
stopped_at_seven (Err stop) risen w now status is (inl all) =
    let refused = refused_of_status stop (sym all.status_is ∙ is) in
    (refused.0, refused.1, ap Err refused.2, all.told ∙ ap (λ s. with_text w (note_of s)) refused.2)
stopped_at_seven (Err stop) risen w now status is (inr part) = absurd (seven_of_no_cut stop part.fault (sym part.status_is ∙ is))

full_of_status : (stop : Stop) → status_of stop ≡ 10 → stop ≡ Full
full_of_status Full is = refl
full_of_status _ is = absurd (cc is)

full_of_cut : (stop : Stop) (fault : ShowFault) → failed_status stop fault ≡ 10 → stop ≡ Full
full_of_cut stop shows.Memory is = absurd (cc is)
full_of_cut Full shows.Failed is = refl
full_of_cut _ shows.Failed is = absurd (cc is)

pub stopped_at_ten : (stopped : Result (Unit {0}) Stop) (risen : Bool) (w now : Option (List ℕ)) (status : ℕ) → status ≡ 10 → Tells stopped risen w now status → stopped ≡ Err Full
stopped_at_ten (Ok done) risen w now status is told = absurd (cc (sym is ∙ told.0))
stopped_at_ten (Err stop) risen w now status is (inl all) = ap Err (full_of_status stop (sym all.status_is ∙ is))
stopped_at_ten (Err stop) risen w now status is (inr part) = ap Err (full_of_cut stop part.fault (sym part.status_is ∙ is))
