-- What the wires and the fleet record of an act that had to stop. The argument is that an answer that couldn't be taken
-- in is the good case of a history in which nothing comes after it. A want changes one record and no history.
use Rattle.std.proofs.Common.{◌≡◌, inl, inr, ℕ, Bool, true, false, List, [], ◌∷◌, ◌++◌, Option, None, refl, sym, ◌∙◌, ap, subst, set}
use Rattle.std.specs.Prelude.{is_some, reverse}
use Rattle.std.proofs.lemmas.List.{append-nil}
use Rattle.dsql_history.specs.driver.Fits.{is_memory}
use Rattle.dsql_history.specs.driver.Kinds.{is_connect, is_shut}
use Rattle.dsql_history.specs.driver.Wires.{WireTold, FleetTold, connected_after}
use Rattle.dsql_history.specs.driver.declared.answer.DriverAnswer.TheVariants.{Memory}
use Rattle.dsql_history.specs.journal.declared.entry.Entry.{Entry}
use Rattle.dsql_history.specs.journal.declared.entry.Permit.{Permit}
use Rattle.dsql_history.specs.declared.event.Event.{Event}
use Rattle.dsql_history.specs.declared.event.Event.TheVariants.{Heard}
use Rattle.dsql_history.specs.Readers.Journals.{journal}
use Rattle.dsql_wire.specs.Calling.{WantsConnect}
use Rattle.dsql_wire.specs.Journaled.{Journaled}
use Rattle.dsql_player_wires.specs.Asked.{Connects, LacksMemory, Performs, WantsCall}
use Rattle.dsql_player_wires.specs.Made.{Made, WantedConnect, WantedOn}
use Rattle.dsql_player_wires.specs.Told.{FleetTells, TellsJust, fleet_told, retired_from, retired_slot}
use Rattle.dsql_player_wires.specs.WiresFit.{PlansFit, SameWires, WiresFit, slot}
use Rattle.dsql_player_wires.specs.Stopped.{GivesAllBack, HearsAtMost, MayCome, NoSurplus, PlansAllOrNothing, RecordsAtMost, RecordsJournal, Surplus, Untaken, WantedMemory, want_of, wants_of, with_answer}
use Rattle.dsql_player_wires.proofs.Asides.{connect_wanted_told}
use Rattle.dsql_player_wires.proofs.Asking.{connected_fits, connected_tells, gone_fits, gone_tells, performed_fits, performed_plans, performed_told}
use Rattle.dsql_player_wires.proofs.GivenBack.{got_all_back}
use Rattle.dsql_player_wires.proofs.Staying.{none_changed}
use Rattle.dsql_player_wires.proofs.Telling.{tells_after, tells_aside, tells_wanted}
use Rattle.dsql_player_wires.proofs.Wanted.{wanted_fits, wanted_plans, wanted_told}

-- The wires alone.

-- If all wires are as before, nothing more was heard.
pub nothing_untaken : {W : Type 0} (heard : W → Option WireTold) (past : List Event) (before after : List (Option (Journaled W))) → SameWires heard before after → HearsAtMost heard past past before after
nothing_untaken heard past before after same = record { surplus = NoSurplus; may = tt; fits = same.fits past; plans = same.plans past; told = λ made. refl }

-- If a call that is neither Connect nor Shut was answered, at most that answer wasn't taken in.
pub answer_untaken : {W : Type 0} (heard : W → Option WireTold) (p : Permit) (e : Entry) (past : List Event) (before after : List (Option (Journaled W))) → Performs heard p e before after
    → is_connect p.call ≡ false → is_shut p.call ≡ false → MayCome past (Untaken e) → HearsAtMost heard past past before after
answer_untaken heard p e past before after h opens shuts may = record {
  surplus = Untaken e;
  may = may;
  fits = λ telling fit. performed_fits heard telling p e [] past before after h opens shuts refl fit;
  plans = performed_plans heard p e [] past before after h refl;
  told = λ made. performed_told made p e [] past h.entry opens shuts refl;
}

-- If a call other than Connect was answered Memory, its wire has that want.
call_wanted : {W : Type 0} (heard : W → Option WireTold) (telling : Bool) (p : Permit) (past : List Event) (before after : List (Option (Journaled W))) → WiresFit heard telling past before → WantsCall heard p before after
    → is_connect p.call ≡ false → MayCome past (WantedMemory p) → HearsAtMost heard past past before after
call_wanted {W} heard telling p past before after fit w opens due = record {
  surplus = WantedMemory p;
  may = due;
  fits = wanted_fits heard p past before after w;
  plans = λ made plans. subst (λ (want : Made). PlansFit heard (want ∷ made) past after) (sym its) (wanted_plans heard p past before after w telling made fit plans);
  told = λ made. ap (λ (want : Made). fleet_told (want ∷ made) past) its ∙ wanted_told heard p past before after w telling made fit;
}
  where
    its : want_of p ≡ WantedOn p.conn p.call
    its = rw opens refl

-- If memory was wanting for a call other than Connect, at most that want came.
pub call_lacking : {W : Type 0} (heard : W → Option WireTold) (telling : Bool) (p : Permit) (past : List Event) (before after : List (Option (Journaled W))) → WiresFit heard telling past before → LacksMemory heard p before after
    → is_connect p.call ≡ false → MayCome past (WantedMemory p) → HearsAtMost heard past past before after
call_lacking heard telling p past before after fit (inl full) opens due = nothing_untaken heard past before after full.1
call_lacking heard telling p past before after fit (inr w) opens due = call_wanted heard telling p past before after fit w opens due

-- The wires and the fleet.

-- If the fleet records exactly a history, which the wires fit, each answer was taken in.
pub all_taken : {W : Type 0} (heard : W → Option WireTold) (planning : List Made) (before after : Option FleetTold) (old new : List Event) (slots now : List (Option (Journaled W))) → FleetTells heard planning before after old new slots now
    → WiresFit heard (is_some after) new now → RecordsAtMost heard planning before after old new slots now
all_taken heard planning before after old new slots now tells fit = record { surplus = NoSurplus; may = tt; planned = planning; which = inl refl; tells = tells; wires = fit }

-- A fleet that wasn't asked has nothing to record of what the wires heard.
pub fleet_unasked : {W : Type 0} (heard : W → Option WireTold) (fleet : Option FleetTold) (old new : List Event) (slots now : List (Option (Journaled W))) → WiresFit heard (is_some fleet) old slots
    → HearsAtMost heard old new slots now → RecordsAtMost heard [] fleet fleet old new slots now
fleet_unasked heard fleet old new slots now fit h =
    let past : List Event = with_answer h.surplus new in
    record {
      surplus = h.surplus;
      may = h.may;
      planned = [];
      which = inl refl;
      tells = subst (λ (more : List Made). FleetTells heard more fleet fleet old past slots now) (sym (append-nil (wants_of h.surplus)))
          (tells_aside heard (wants_of h.surplus) fleet old past slots now h.told h.plans);
      wires = h.fits (is_some fleet) fit;
    }

-- If all wires are as before and the fleet wasn't asked, nothing came of the act.
pub nothing_came : {W : Type 0} (heard : W → Option WireTold) (planning : List Made) (fleet : Option FleetTold) (past : List Event) (slots now : List (Option (Journaled W))) → WiresFit heard (is_some fleet) past slots
    → SameWires heard slots now → RecordsAtMost heard planning fleet fleet past past slots now
nothing_came heard planning fleet past slots now fit same = record {
  surplus = NoSurplus;
  may = tt;
  planned = [];
  which = inr (refl, refl, refl);
  tells = tells_aside heard [] fleet past past slots now (λ made. refl) (same.plans past);
  wires = same.fits past (is_some fleet) fit;
}

-- If a Shut was answered and its wire was given back, at most that answer wasn't taken in.
pub shut_untaken : {W : Type 0} (heard : W → Option WireTold) (p : Permit) (e : Entry) (past : List Event) (before mid after : List (Option (Journaled W))) (fleet : Option FleetTold) → Performs heard p e before mid
    → is_shut p.call ≡ true → after ≡ set mid p.conn None → RecordsJournal heard (slot mid p.conn) → MayCome past (Untaken e) → WiresFit heard (is_some fleet) past before
    → RecordsAtMost heard [] fleet (retired_slot heard p.conn (slot mid p.conn) fleet) past past before after
shut_untaken {W} heard p e past before mid after fleet h shuts taken exactly may fit =
    let gone : Option FleetTold = retired_slot heard p.conn (slot mid p.conn) fleet in
    let tells : FleetTells heard [] fleet gone past (Heard e ∷ past) before after = gone_tells heard p e [] past before mid after fleet h shuts taken exactly refl fit in
    let fits : WiresFit heard (is_some fleet) (Heard e ∷ past) after = gone_fits heard (is_some fleet) p e [] past before mid after h shuts taken refl fit in
    record {
      surplus = Untaken e;
      may = may;
      planned = [];
      which = inl refl;
      tells = tells;
      wires = subst (λ (telling : Bool). WiresFit heard telling (Heard e ∷ past) after) (sym tells.telling) fits;
    }

-- If a Connect was answered and its wire, if there is one, is in its slot, at most that answer wasn't taken in.
pub connect_untaken : {W : Type 0} (heard : W → Option WireTold) (p : Permit) (e : Entry) (past : List Event) (before after : List (Option (Journaled W))) (fleet : Option FleetTold) → Connects heard (is_some fleet) p e before after
    → is_memory e.answer ≡ false → is_connect p.call ≡ true → journal past p.conn ≡ [] → MayCome past (Untaken e) → WiresFit heard (is_some fleet) past before
    → RecordsAtMost heard [] fleet (connected_after p.conn e.answer fleet) past past before after
connect_untaken {W} heard p e past before after fleet h no_want opens nothing may fit =
    let asked : Option FleetTold = connected_after p.conn e.answer fleet in
    let tells : FleetTells heard [] fleet asked past (Heard e ∷ past) before after = connected_tells heard (is_some fleet) p e [] past before after fleet h no_want opens nothing refl in
    let fits : WiresFit heard (is_some fleet) (Heard e ∷ past) after = connected_fits heard (is_some fleet) p e [] past before after h opens nothing refl fit in
    record {
      surplus = Untaken e;
      may = may;
      planned = [];
      which = inl refl;
      tells = tells;
      wires = subst (λ (telling : Bool). WiresFit heard telling (Heard e ∷ past) after) (sym tells.telling) fits;
    }

-- If a Connect was answered Memory, the fleet has that want.
connect_wanted : {W : Type 0} (heard : W → Option WireTold) (p : Permit) (past : List Event) (before after : List (Option (Journaled W))) (fleet : Option FleetTold) → WiresFit heard (is_some fleet) past before
    → ((c : ℕ) → slot after c ≡ slot before c) → is_connect p.call ≡ true → MayCome past (WantedMemory p) → RecordsAtMost heard [] fleet (connected_after p.conn Memory fleet) past past before after
connect_wanted {W} heard p past before after fleet fit same opens due =
    let asked : Option FleetTold = connected_after p.conn Memory fleet in
    let wires : SameWires heard before after = none_changed heard before after same in
    let tells : FleetTells heard (WantedConnect p.conn ∷ []) fleet asked past past before after = tells_wanted heard p.conn fleet past before after (λ made. connect_wanted_told p.conn made past) (wires.plans past) in
    record {
      surplus = WantedMemory p;
      may = due;
      planned = [];
      which = inl refl;
      tells = subst (λ (want : Made). FleetTells heard (want ∷ []) fleet asked past past before after) (sym its) tells;
      wires = subst (λ (telling : Bool). WiresFit heard telling past after) (sym tells.telling) (wires.fits past (is_some fleet) fit);
    }
  where
    its : want_of p ≡ WantedConnect p.conn
    its = rw opens refl

-- If memory was wanting for a Connect, at most that want came.
pub connect_lacking : {W : Type 0} (heard : W → Option WireTold) (p : Permit) (past : List Event) (before after : List (Option (Journaled W))) (fleet now : Option FleetTold) → WiresFit heard (is_some fleet) past before
    → ((c : ℕ) → slot after c ≡ slot before c) → WantsConnect p.conn fleet now → is_connect p.call ≡ true → MayCome past (WantedMemory p) → RecordsAtMost heard [] fleet now past past before after
connect_lacking heard p past before after fleet now fit same (inl is) opens due =
    subst (λ (told : Option FleetTold). RecordsAtMost heard [] fleet told past past before after) (sym is) (connect_wanted heard p past before after fleet fit same opens due)
connect_lacking heard p past before after fleet now fit same (inr is) opens due =
    subst (λ (told : Option FleetTold). RecordsAtMost heard [] fleet told past past before after) (sym is)
    (fleet_unasked heard fleet past past before after fit (nothing_untaken heard past before after (none_changed heard before after same)))

-- If nothing was left to be planned, no plan came beside these wants.
wants_alone : (surplus : Surplus) (planned : List Made) (old new : List Event) → PlansAllOrNothing [] surplus planned old new → wants_of surplus ++ planned ≡ wants_of surplus
wants_alone surplus planned old new (inl none) = ap (λ plans. wants_of surplus ++ plans) none ∙ append-nil (wants_of surplus)
wants_alone surplus planned old new (inr none) = ap (λ plans. wants_of surplus ++ plans) none.0 ∙ append-nil (wants_of surplus)

-- If a part was carried out and the next one had to stop, both together had to stop.
pub stops_after : {W : Type 0} (heard : W → Option WireTold) (planning : List Made) (before between after : Option FleetTold) (old mid new : List Event) (slots halfway now : List (Option (Journaled W)))
    → FleetTells heard planning before between old mid slots halfway → RecordsAtMost heard [] between after mid new halfway now → RecordsAtMost heard planning before after old new slots now
stops_after heard planning before between after old mid new slots halfway now f g =
    let past : List Event = with_answer g.surplus new in
    let wants : List Made = wants_of g.surplus in
    record {
      surplus = g.surplus;
      may = g.may;
      planned = planning;
      which = inl refl;
      tells = tells_after heard planning wants before between after old mid past slots halfway now f
          (subst (λ (more : List Made). FleetTells heard more between after mid past halfway now) (wants_alone g.surplus g.planned mid new g.which) g.tells);
      wires = g.wires;
    }

-- If a part had to stop and every wire is given back then, the fleet records that.
pub gives_all_back : {W : Type 0} (heard : W → Option WireTold) (before between : Option FleetTold) (old new : List Event) (slots now : List (Option (Journaled W))) → RecordsAtMost heard [] before between old new slots now
    → ((c : ℕ) → RecordsJournal heard (slot now c)) → GivesAllBack heard before (retired_from heard (reverse now) between) old new slots
gives_all_back heard before between old new slots now r exact =
    let past : List Event = with_answer r.surplus new in
    let wants : List Made = wants_of r.surplus in
    record {
      surplus = r.surplus;
      may = r.may;
      back = λ made told j.
          let tells : TellsJust heard (wants ++ made) told between past now =
          subst (λ (more : List Made). TellsJust heard (more ++ made) told between past now) (wants_alone r.surplus r.planned old new r.which) (r.tells.told made told j) in
          got_all_back heard (wants ++ made) told between past now tells r.wires exact;
    }
