-- The notes and the status that report the end of a run.
use Rattle.std.specs.Prelude.{ℕ, ◌≡◌, ◌==◌, ◌⊎◌, Bool, true, List, [], ◌∷◌, ◌++◌, Option, Result, Ok, Err, codes}
use Rattle.std.specs.List.{list_any}
use Rattle.dsql_script_show.specs.Report.{with_text, ShowsFront}
use Rattle.dsql_script_show.specs.declared.showing.ShowFault.{ShowFault}
use Rattle.dsql_script_show.specs.declared.showing.ShowFault.TheVariants as shows
use Rattle.dsql_script_source.specs.Stops.{stop_text}
use Rattle.dsql_script_source.specs.declared.stop.Stop.{Stop}
use Rattle.dsql_script_source.specs.declared.stop.Stop.TheVariants.{Read, Write, Memory, Refused, Full}

-- Returns the line that says what stopped a run.
abbrev pub note_of : Stop → List ℕ
note_of stop = codes "sqlrun: " ++ stop_text stop ++ 10 ∷ []

abbrev pub usage_note : List ℕ
usage_note = codes "sqlrun: usage: sqlrun play [--summary] | race | gen N" ++ 10 ∷ []

abbrev pub status_of : Stop → ℕ
status_of Read = 3
status_of Write = 4
status_of Memory = 5
status_of (Refused number fault) = 7
status_of Full = 10

-- Is true if this is one of the statuses.
abbrev pub is_status : ℕ → Bool
is_status status = list_any (λ known. known == status) (0 ∷ 2 ∷ 3 ∷ 4 ∷ 5 ∷ 7 ∷ 10 ∷ [])

-- Returns the status if the stop couldn't be noted.
abbrev pub failed_status : Stop → ShowFault → ℕ
failed_status stop shows.Memory = 5
failed_status Memory shows.Failed = 5
failed_status Full shows.Failed = 10
failed_status _ shows.Failed = 4

-- Holds if only a part of the note was written, for this reason. If the reason is a fault of the notes, they
-- had one. If there was no memory for the line, nothing was written.
pub record TellsInPart (stop : Stop) (risen : Bool) (w now : Option (List ℕ)) (status : ℕ) : Type 0 where
  pub fault : ShowFault
  pub status_is : status ≡ failed_status stop fault
  pub caused : fault ≡ shows.Failed → risen ≡ true
  pub front : ShowsFront w (note_of stop) now
  pub unwritten : fault ≡ shows.Memory → now ≡ w

-- Holds if the whole note of the stop was written, and the status is that of the stop.
pub record TellsAll (stop : Stop) (w now : Option (List ℕ)) (status : ℕ) : Type 0 where
  pub status_is : status ≡ status_of stop
  pub told : now ≡ with_text w (note_of stop)

-- Holds if the notes and the status report what stopped a run. Of a run that came to its script's end nothing
-- is noted.
abbrev pub Tells : Result Unit Stop → Bool → Option (List ℕ) → Option (List ℕ) → ℕ → Type 0
Tells (Ok _) risen w now status = (status ≡ 0) × (now ≡ w)
Tells (Err stop) risen w now status = TellsAll stop w now status ⊎ TellsInPart stop risen w now status
