-- What a fleet records follows from what was heard. The argument goes through the kinds of events.
use Rattle.std.proofs.Common.{◌≡◌, ℕ, true, false, List, [], ◌∷◌, ◌++◌, Option, Some, None, refl, ◌∙◌, ap, subst}
use Rattle.std.specs.Prelude.{is_some, IfSome}
use Rattle.std.specs.List.{list_all}
use Rattle.dsql_history.specs.driver.Kinds.{is_connect, is_shut}
use Rattle.dsql_history.specs.driver.Wires.{WireTold, FleetTold, with_connects, with_retired}
use Rattle.dsql_history.specs.journal.declared.entry.Entry.{Entry}
use Rattle.dsql_history.proofs.journal.Conjunctions.{parts2}
use Rattle.dsql_history.specs.declared.event.Event.{Event}
use Rattle.dsql_history.specs.declared.event.Event.TheVariants.{Heard}
use Rattle.dsql_history.specs.Readers.Journals.{journal}
use Rattle.dsql_wire.specs.Told.{TellsOf}
use Rattle.dsql_wire.specs.Journaled.{Journaled}
use Rattle.dsql_player_wires.specs.Made.{Aside, Made, aside_of, aside_on}
use Rattle.dsql_player_wires.specs.Told.{hears_nothing, tells_of, fleet_told, FleetTells, retired_slot}
use Rattle.dsql_player_wires.specs.WiresFit.{HoldsWire, KeepsPlans, PlansFit, RecordsAside}
use Rattle.dsql_player_wires.proofs.Journals.{shut_only}
use Rattle.dsql_player_wires.proofs.Telling.{tells_gone}

-- A fleet records nothing of what isn't heard.
pub unheard_event_told : (made : List Made) (e : Event) (past : List Event) → hears_nothing e ≡ true → fleet_told made (e ∷ past) ≡ fleet_told made past
unheard_event_told made (Heard x) past h = absurd cc
unheard_event_told made _ past h = refl

pub unheard_told : (made : List Made) (more past : List Event) → list_all hears_nothing more ≡ true → fleet_told made (more ++ past) ≡ fleet_told made past
unheard_told made [] past h = refl
unheard_told made (e ∷ more) past h =
    let p = parts2 (hears_nothing e) (list_all hears_nothing more) h in
    unheard_event_told made e (more ++ past) p.0 ∙ unheard_told made more past p.1

-- A fleet records nothing of a call that is neither Connect nor Shut.
pub answered_told : (made : List Made) (past : List Event) (e : Entry) → is_connect e.call ≡ false → is_shut e.call ≡ false → fleet_told made (Heard e ∷ past) ≡ fleet_told made past
answered_told made past e opens shuts = rw (opens, shuts) refl

pub shut_told : (made : List Made) (past : List Event) (e : Entry) → is_shut e.call ≡ true
    → fleet_told made (Heard e ∷ past) ≡ with_retired ((e.conn, tells_of e.conn (aside_on made e.conn) (e ∷ journal past e.conn)) ∷ []) (fleet_told made past)
shut_told made past e shuts = rw (shut_only e.call shuts, shuts) refl

pub connect_told : (made : List Made) (past : List Event) (e : Entry) → is_connect e.call ≡ true → fleet_told made (Heard e ∷ past) ≡ with_connects ((e.conn, e.answer) ∷ []) (fleet_told made past)
connect_told made past e opens = rw opens refl

-- A wire with this journal and these plans and wants that keeps a record records exactly them.
pub told_whole : (told : Option WireTold) (c : ℕ) (aside : Aside) (entries : List Entry) → IfSome told (TellsOf c entries) → IfSome told (λ t. aside_of t ≡ aside) → IfSome told (λ t. t ≡ tells_of c aside entries)
told_whole None c aside entries h all = tt
told_whole (Some told) c aside entries h all =
    ap (λ n. record { number = n; calls = told.calls; plans = told.plans; wanted = told.wanted }) h.number
    ∙ ap (λ calls. record { number = c; calls = calls; plans = told.plans; wanted = told.wanted }) h.calls
    ∙ ap (λ (its : Aside). tells_of c its entries) all

-- If the wire of a slot is given back, the fleet records it.
pub slot_told : {W : Type 0} (heard : W → Option WireTold) (c : ℕ) (entries : List Entry) (wire : Option (Journaled W)) (fleet : Option FleetTold) (old new : List Event) (slots now : List (Option (Journaled W)))
    → HoldsWire heard (is_some fleet) c entries wire → IfSome wire (λ w. IfSome (heard w.wire) (TellsOf w.conn w.journal))
    → ((made : List Made) → PlansFit heard made old slots → RecordsAside heard (aside_on made c) wire)
    → ((made : List Made) → fleet_told made new ≡ with_retired ((c, tells_of c (aside_on made c) entries) ∷ []) (fleet_told made old))
    → KeepsPlans heard old new slots now → FleetTells heard [] fleet (retired_slot heard c wire fleet) old new slots now
slot_told heard c entries None fleet old new slots now holds exactly plans told keeps = absurd holds
slot_told heard c entries (Some w) fleet old new slots now holds exactly plans told keeps =
    let of : IfSome (heard w.wire) (TellsOf c entries) =
    subst (λ (j : List Entry). IfSome (heard w.wire) (TellsOf c j)) holds.journal (subst (λ (n : ℕ). IfSome (heard w.wire) (TellsOf n w.journal)) holds.conn exactly) in
    tells_gone heard c (heard w.wire) (λ made. tells_of c (aside_on made c) entries) fleet old new slots now holds.tells
    (λ made fit. told_whole (heard w.wire) c (aside_on made c) entries of (plans made fit)) told keeps
