-- What the entries of a tenure, the newest first, say of it.
use Rattle.std.specs.Prelude.{ℕ, ◌&&◌, not, ◌==◌, max, Option, Some, None, List, [], ◌∷◌, if◌then◌else◌}
use Rattle.std.specs.List.{list_any}
use Rattle.dsql_driver.specs.Fits.{is_skip}
use Rattle.dsql_tenure_journal.specs.declared.entry.Entry.{Entry}
use Rattle.dsql_driver.specs.Kinds.{is_bad, is_reset, is_valid, is_ping, is_prepare, runs_text, given_handle}
use Rattle.dsql_tenure_journal.specs.Readers.{last_owner, went_bad}
use Rattle.dsql_tenure_journal.specs.Tenure.{is_body, place, is_refused_begin}
use Rattle.dsql_tenure.specs.declared.so_far.Prepared.{Prepared}
use Rattle.dsql_tenure.specs.declared.so_far.Prepared.TheVariants.{Nothing, Handle, Otherwise}
use Rattle.dsql_tenure.specs.declared.so_far.SoFar.{SoFar}

-- Returns the highest place that an entry has.
abbrev pub last_place : List Entry → ℕ
last_place [] = 0
last_place (entry ∷ earlier) = max (place entry.call) (last_place earlier)

-- Returns the handles given, with one Prepare more, which gave this handle.
abbrev pub prepared_with : Option ℕ → Prepared → Prepared
prepared_with (Some handle) Nothing = Handle handle
prepared_with (Some handle) (Handle other) = if handle == other then Handle other else Otherwise
prepared_with (Some handle) Otherwise = Otherwise
prepared_with None others = Otherwise

-- Returns the handles that the Prepares of the tenure gave.
abbrev pub prepared : List Entry → Prepared
prepared [] = Nothing
prepared (entry ∷ earlier) =
    if is_prepare entry.call then prepared_with (given_handle entry.answer) (prepared earlier) else prepared earlier

-- Returns all that is kept of the tenure.
abbrev pub so_far : List Entry → SoFar
so_far earlier =
    record {
      owner = last_owner earlier;
      tested = list_any (λ x. is_valid x.call) earlier;
      fell = list_any (λ x. is_reset x.call && is_bad x.answer) earlier;
      bad = went_bad earlier;
      pinged = list_any (λ x. is_ping x.call) earlier;
      worked = list_any is_body earlier;
      place = last_place earlier;
      ran = list_any (λ x. runs_text x.call && not (is_skip x.answer)) earlier;
      prepared = prepared earlier;
      refused = list_any is_refused_begin earlier;
    }
