-- What is sent over rows that were made is the same whatever the call asks, because it carries no statement.
use Rattle.std.proofs.Common.{◌≡◌, ◌≢◌, ℕ, Bool, true, false, List, Option, Some, None, is_some, refl, sym, ap, ◌∙◌}
use Rattle.std.specs.Option.{option_map}
use Rattle.dsql_laws_calls.specs.course.declared.course.Wish.{Wish}
use Rattle.dsql_laws_calls.specs.course.declared.course.Wish.TheVariants.{Nothing}
use Rattle.dsql_laws_calls.specs.works.Line.{Asked}
use Rattle.dsql_engine_exchanged.specs.declared.bare.BareCall.{BareCall}
use Rattle.dsql_engine_exchanged.specs.declared.bare.BareCall.TheVariants as bare
use Rattle.dsql_engine_exchanged.specs.Filled.{filled, has_statement}
use Rattle.dsql_engine_exchanged.proofs.Filled.{carries}
use Rattle.dsql_laws_calls.specs.history.declared.event.Event.{Event}
use Rattle.dsql_laws_calls.specs.history.declared.work.Work.{Work}
use Rattle.dsql_laws_calls.specs.history.declared.work.Task.TheVariants.{HandOut}
use Rattle.dsql_laws_calls.specs.history.declared.work.Work.TheVariants.{Statement}
use Rattle.dsql_laws_calls.specs.history.Readers.HandedOut.{rows_by}
use Rattle.dsql_laws_calls.specs.history.Readers.Works.{work}
use Rattle.dsql_laws_calls.specs.history.Rules.Sent.{asked_by, line_of}
use Rattle.dsql_laws_calls.specs.history.Legal.{Lawful}
use Rattle.dsql_laws_calls.proofs.Makers.{hands_out, rows_hand_out}
use Rattle.dsql_engine_desk.specs.Next.{has_line}
use Rattle.dsql_engine_lines.proofs.OverRows.{over_rows}

hands_line : (w : Work) → hands_out w ≡ true → has_line w ≡ true
hands_line (Statement it (HandOut label)) h = refl
hands_line w h = absurd cc

pub made_line : (H : List Event) (n : ℕ) → is_some (rows_by H n) ≡ true → has_line (work H n) ≡ true
made_line H n made = hands_line (work H n) (rows_hand_out H n made)

filled_alike : (a b : Asked) (it : BareCall) → has_statement it ≡ false → filled a it ≡ filled b it
filled_alike a b bare.Text h = absurd cc
filled_alike a b bare.Prepare h = absurd cc
filled_alike a b (bare.Handle handle) h = absurd cc
filled_alike a b it h = refl

pub over_filled : (H : List Event) (n : ℕ) (wish : Wish) (sent : Option BareCall) → Lawful H → is_some (rows_by H n) ≡ true → option_map (filled (asked_by H n)) sent ≡ line_of H n wish
    → (asked : Asked) → wish ≢ Nothing → option_map (filled asked) sent ≡ line_of H n wish
over_filled H n wish None l made is asked some = is
over_filled H n wish (Some it) l made is asked some = by (has_statement it) refl
  where
    by : (b : Bool) → has_statement it ≡ b → option_map (filled asked) (Some it) ≡ line_of H n wish
    by true h =
        let none = over_rows H n wish (filled (asked_by H n) it) l made (sym is) in
        let wrong : true ≡ false = sym (carries (asked_by H n) it h) ∙ none in
        absurd cc
    by false h = ap Some (filled_alike asked (asked_by H n) it h) ∙ is
