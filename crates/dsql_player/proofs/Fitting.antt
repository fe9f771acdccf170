-- The wires, and what a fleet records, through the steps of a run. The argument is that they depend only on
-- what was heard.
use Rattle.std.proofs.Common.{◌≡◌, ℕ, Bool, true, false, List, Option, Some, None, sym, subst}
use Rattle.std.specs.Prelude.{MatchBool}
use Rattle.dsql_engine_laws.specs.driver.Wires.{WireTold}
use Rattle.dsql_engine_laws.specs.journal.declared.entry.Entry.{Entry}
use Rattle.dsql_engine_laws.specs.history.declared.event.Event.{Event}
use Rattle.dsql_engine_laws.specs.history.Readers.Journals.{journal}
use Rattle.dsql_engine_laws.specs.wire.Journaled.{Journaled}
use Rattle.dsql_player_wires.specs.Stopped.{HearsAtMost, NoSurplus}
use Rattle.dsql_player_wires.specs.WiresFit.{FitsAt, HoldsWire, KeepsFit, KeepsPlans, WiresFit, is_wired, slot}
use Rattle.dsql_player_wires.proofs.Plans.{alike_plans}
use Rattle.dsql_player.specs.Carried.{HearsNothing}

untelling_wire : {W : Type 0} (heard : W → Option WireTold) (telling : Bool) (c : ℕ) (entries : List Entry) (wire : Option (Journaled W)) → HoldsWire heard telling c entries wire → HoldsWire heard false c entries wire
untelling_wire heard telling c entries None h = absurd h
untelling_wire heard telling c entries (Some w) h = record { conn = h.conn; journal = h.journal; tells = λ t. absurd cc }

untelling_at : {W : Type 0} (heard : W → Option WireTold) (telling : Bool) (c : ℕ) (entries : List Entry) (wire : Option (Journaled W)) (b : Bool)
    → MatchBool b (HoldsWire heard telling c entries wire) (wire ≡ None) → MatchBool b (HoldsWire heard false c entries wire) (wire ≡ None)
untelling_at heard telling c entries wire true h = untelling_wire heard telling c entries wire h
untelling_at heard telling c entries wire false h = h

-- Wires that fit and must all record also fit if they need not.
pub untelling : {W : Type 0} (heard : W → Option WireTold) (telling : Bool) (past : List Event) (slots : List (Option (Journaled W))) → WiresFit heard telling past slots → WiresFit heard false past slots
untelling heard telling past slots fit = λ c. untelling_at heard telling c (journal past c) (slot slots c) (is_wired (journal past c)) (fit c)

-- If nothing is heard, the wires fit as before.
pub fits_unheard : {W : Type 0} (heard : W → Option WireTold) (old new : List Event) (slots : List (Option (Journaled W))) → HearsNothing old new → KeepsFit heard old new slots slots
fits_unheard heard old new slots h = λ telling fit c. subst (λ (entries : List Entry). FitsAt heard telling c entries (slot slots c)) (sym (h.journals c)) (fit c)

-- If the history stays the same, the wires fit as before.
pub fits_same : {W : Type 0} (heard : W → Option WireTold) (old new : List Event) (slots : List (Option (Journaled W))) → new ≡ old → KeepsFit heard old new slots slots
fits_same heard old new slots same = λ telling fit. subst (λ (past : List Event). WiresFit heard telling past slots) (sym same) fit

-- If nothing is heard, the plans and wants of the wires fit as before.
pub plans_unheard : {W : Type 0} (heard : W → Option WireTold) (old new : List Event) (slots : List (Option (Journaled W))) → HearsNothing old new → KeepsPlans heard old new slots slots
plans_unheard heard old new slots h = alike_plans heard old new slots h.journals

-- If nothing is heard in an act that has to stop, the wires have no answer and no want more.
pub stops_unheard : {W : Type 0} (heard : W → Option WireTold) (old new : List Event) (slots : List (Option (Journaled W))) → HearsNothing old new → HearsAtMost heard old new slots slots
stops_unheard heard old new slots h = record { surplus = NoSurplus; may = tt; fits = fits_unheard heard old new slots h; plans = plans_unheard heard old new slots h; told = h.told }

-- What the wires hear in an act that has to stop depends on the histories alone.
pub stops_there : {W : Type 0} (heard : W → Option WireTold) (old new : List Event) (slots now : List (Option (Journaled W))) → new ≡ old → HearsAtMost heard old old slots now → HearsAtMost heard old new slots now
stops_there heard old new slots now same stops = subst (λ (past : List Event). HearsAtMost heard old past slots now) (sym same) stops
