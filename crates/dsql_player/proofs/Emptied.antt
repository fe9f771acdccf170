-- After the run is over no wire is left. The argument is that every journal is empty or whole by then, and that
-- the connection of such a journal has no wire.
use Rattle.std.proofs.Common.{◌≡◌, ◌⊎◌, inl, inr, ℕ, Bool, true, false, ◌&&◌, ◌||◌, List, [], ◌∷◌, Option, None, refl, subst, ◌∙◌}
use Rattle.std.specs.Prelude.{MatchBool}
use Rattle.dsql_engine_laws.specs.driver.declared.answer.DriverAnswer.{DriverAnswer}
use Rattle.dsql_engine_laws.specs.driver.declared.answer.DriverAnswer.TheVariants.{Bad, Fail}
use Rattle.dsql_engine_laws.specs.driver.Fits.{is_done, is_failure}
use Rattle.dsql_engine_laws.specs.driver.Kinds.{is_connect, is_shut}
use Rattle.dsql_engine_laws.specs.driver.Wires.{WireTold}
use Rattle.dsql_engine_laws.specs.journal.declared.entry.Entry.{Entry}
use Rattle.dsql_engine_laws.specs.journal.Journal.{IsWhole, is_finished, is_journal_prefix, may_follow}
use Rattle.dsql_engine_laws.specs.journal.WholeJournal.{connects_first}
use Rattle.dsql_engine_laws.proofs.journal.Sentences.{MayFollow-of}
use Rattle.dsql_engine_laws.specs.history.declared.event.Event.{Event}
use Rattle.dsql_engine_laws.specs.history.Readers.Journals.{journal}
use Rattle.dsql_engine_laws.proofs.laws.Tests.{both}
use Rattle.dsql_engine_laws.specs.laws_ends.Over.{IsOver}
use Rattle.dsql_engine_laws.specs.wire.Journaled.{Journaled}
use Rattle.dsql_player_wires.proofs.Journals.{opened_wired, shut_unwired}
use Rattle.dsql_player_wires.specs.WiresFit.{HoldsWire, WiresFit, is_wired, slot}

failed : (answer : DriverAnswer) → is_failure answer ≡ true → is_done answer ≡ false
failed Bad h = refl
failed (Fail text) h = refl
failed _ h = absurd cc

-- A Connect comes first in its journal.
nothing_before : (before : List Entry) (e : Entry) → is_connect e.call ≡ true → connects_first before e ≡ true → before ≡ []
nothing_before [] e opens h = refl
nothing_before (x ∷ before) e opens h = absurd cc

refused : (before : List Entry) (e : Entry) → may_follow before e ≡ true → (is_connect e.call && is_failure e.answer) ≡ true → is_wired (e ∷ before) ≡ false
refused before e may h =
    let it = both (is_connect e.call) (is_failure e.answer) h in
    let follows = MayFollow-of before e may in
    let none : before ≡ [] = nothing_before before e it.0 follows.whole_journal.connect_first in
    rw none (opened_wired e it.0 ∙ failed e.answer it.1)

finished : (before : List Entry) (e : Entry) (shut : Bool) → is_shut e.call ≡ shut → may_follow before e ≡ true → (shut || (is_connect e.call && is_failure e.answer)) ≡ true → is_wired (e ∷ before) ≡ false
finished before e true is may h = shut_unwired e before is
finished before e false is may h = refused before e may h

-- The connection of a whole journal was refused or shut, so it has no wire.
pub whole_unwired : (entries : List Entry) → IsWhole entries → is_wired entries ≡ false
whole_unwired [] w = absurd cc
whole_unwired (e ∷ before) w =
    let it = both (may_follow before e && is_journal_prefix before) (is_finished (e ∷ before)) w in
    let may = both (may_follow before e) (is_journal_prefix before) it.0 in
    finished before e (is_shut e.call) refl may.0 it.1

over_unwired : (entries : List Entry) → (entries ≡ []) ⊎ IsWhole entries → is_wired entries ≡ false
over_unwired entries (inl none) = rw none refl
over_unwired entries (inr whole) = whole_unwired entries whole

pub emptied : {W : Type 0} (heard : W → Option WireTold) (telling : Bool) (past : List Event) (slots : List (Option (Journaled W))) → IsOver past → WiresFit heard telling past slots → (c : ℕ) → slot slots c ≡ None
emptied heard telling past slots over fit c =
    subst (λ (b : Bool). MatchBool b (HoldsWire heard telling c (journal past c) (slot slots c)) (slot slots c ≡ None)) (over_unwired (journal past c) (over.whole c)) (fit c)
