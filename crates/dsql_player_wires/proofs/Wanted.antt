-- A wire answered a call Memory. The argument adds the want to the record of that wire, which has heard what it had
-- heard.
use Rattle.std.proofs.Common.{◌≡◌, ◌⊎◌, inl, inr, ℕ, Bool, true, false, List, [], ◌∷◌, ◌++◌, Option, Some, None, refl, sym, ◌∙◌, ap, subst, set}
use Rattle.std.specs.Prelude.{is_some, IfSome}
use Rattle.dsql_history.specs.driver.Wires.{WireTold, told_after, with_wanted}
use Rattle.dsql_history.specs.driver.declared.call.DriverCall.{DriverCall}
use Rattle.dsql_history.specs.driver.declared.answer.DriverAnswer.TheVariants.{Memory}
use Rattle.dsql_history.specs.journal.declared.entry.Entry.{Entry}
use Rattle.dsql_history.specs.journal.declared.entry.Permit.{Permit}
use Rattle.dsql_history.specs.declared.event.Event.{Event}
use Rattle.dsql_history.specs.Readers.Journals.{journal}
use Rattle.dsql_wire.specs.Calling.{WantsMemory}
use Rattle.dsql_wire.specs.Journaled.{Journaled}
use Rattle.dsql_player_wires.specs.Asked.{WantsCall}
use Rattle.dsql_player_wires.specs.Made.{Aside, Made, WantedOn, aside_of, aside_on}
use Rattle.dsql_player_wires.specs.Told.{fleet_told}
use Rattle.dsql_player_wires.specs.WiresFit.{slot, is_wired, FitsAt, KeepsFit, PlansFit, RecordsAside, SameHeard, Wants, WantsIn, WiresFit}
use Rattle.dsql_player_wires.proofs.Asides.{one_more_fits, open_wired, unshut_told, want_on_another, want_on_its_wire}
use Rattle.dsql_player_wires.proofs.Planned.{filled_wired}
use Rattle.dsql_player_wires.proofs.Slots.{set_wire, slot_elsewhere}
use Rattle.dsql_player_wires.proofs.Wiring.{fit_but_one, fits_at_still, still_some}

wants_more : (call : DriverCall) (aside : Aside) (told : Option WireTold) → IfSome told (λ t. aside_of t ≡ aside) → IfSome (told_after call Memory told) (λ t. aside_of t ≡ record aside { wanted = aside.wanted ++ call ∷ [] })
wants_more call aside None h = tt
wants_more call aside (Some told) h = ap (λ (a : Aside). record a { wanted = a.wanted ++ call ∷ [] }) h

-- The wire in the slot has one want more.
wanted_in : {W : Type 0} (heard : W → Option WireTold) (call : DriverCall) (aside : Aside) (before after : Option (Journaled W)) → WantsIn heard call before after → RecordsAside heard aside before
    → RecordsAside heard (record aside { wanted = aside.wanted ++ call ∷ [] }) after
wanted_in heard call aside None after w h = absurd w
wanted_in heard call aside (Some b) None w h = absurd w
wanted_in heard call aside (Some b) (Some a) w h =
    subst (λ (told : Option WireTold). IfSome told (λ t. aside_of t ≡ record aside { wanted = aside.wanted ++ call ∷ [] })) (sym w.told) (wants_more call aside (heard b.wire) h)

still_fits : {W : Type 0} (heard : W → Option WireTold) (telling : Bool) (c : ℕ) (call : DriverCall) (entries : List Entry) (before after : Option (Journaled W)) → WantsIn heard call before after
    → FitsAt heard telling c entries before → FitsAt heard telling c entries after
still_fits heard telling c call entries None after w fit = absurd w
still_fits heard telling c call entries (Some b) None w fit = absurd w
still_fits heard telling c call entries (Some b) (Some a) w fit =
    fits_at_still heard telling c entries b a (record { conn = w.conn; journal = w.journal; telling = ap is_some w.told ∙ still_some (with_wanted call) (heard b.wire) }) fit

-- If a call failed for want of memory, its wire answered it Memory. Otherwise the wire's judge had no room, and the wire
-- is as it was.
pub wire_lacks : {W : Type 0} (heard : W → Option WireTold) (call : DriverCall) (before after : Journaled W) → after.conn ≡ before.conn → after.journal ≡ before.journal
    → WantsMemory call before.spare (heard before.wire) (heard after.wire) → ((before.spare ≡ 0) × SameHeard heard before after) ⊎ Wants heard call before after
wire_lacks heard call before after conn journal (inl told) = inr (record { conn = conn; journal = journal; told = told })
wire_lacks heard call before after conn journal (inr full) = inl (full.0, record { conn = conn; journal = journal; told = full.1 })

-- If the wire that answered the call Memory goes back into its slot, no other slot changed.
pub one_wanted : {W : Type 0} (heard : W → Option WireTold) (p : Permit) (ws : List (Option (Journaled W))) (before after : Journaled W) → slot ws p.conn ≡ Some before → Wants heard p.call before after
    → WantsCall heard p ws (set ws p.conn (Some after))
one_wanted {W} heard p ws before after is w = record {
  others = λ c n. slot_elsewhere ws p.conn (Some after) c n;
  wanted = subst (λ (o : Option (Journaled W)). WantsIn heard p.call o (slot (set ws p.conn (Some after)) p.conn)) (sym is)
      (subst (λ (o : Option (Journaled W)). WantsIn heard p.call (Some before) o) (sym (set_wire ws p.conn before after is)) w);
}

-- Only a connection that has a wire can have such a want.
has_wire : {W : Type 0} (heard : W → Option WireTold) (telling : Bool) (c : ℕ) (call : DriverCall) (entries : List Entry) (before after : Option (Journaled W)) → WantsIn heard call before after
    → FitsAt heard telling c entries before → is_wired entries ≡ true
has_wire heard telling c call entries None after w fit = absurd w
has_wire heard telling c call entries (Some b) after w fit = filled_wired heard telling c entries b fit

module _ {W : Type 0} (heard : W → Option WireTold) (p : Permit) (past : List Event) (before after : List (Option (Journaled W))) (w : WantsCall heard p before after) where
  -- The wires fit as before.
  pub wanted_fits : KeepsFit heard past past before after
  wanted_fits telling fit =
      fit_but_one heard telling past past before after p.conn (λ d n. refl) w.others fit
      (still_fits heard telling p.conn p.call (journal past p.conn) (slot before p.conn) (slot after p.conn) w.wanted (fit p.conn))

  -- The wire of the permit's connection has the want.
  pub wanted_plans : (telling : Bool) (made : List Made) → WiresFit heard telling past before → PlansFit heard made past before → PlansFit heard (WantedOn p.conn p.call ∷ made) past after
  wanted_plans telling made fit plans =
      one_more_fits heard made (WantedOn p.conn p.call ∷ made) past before after p.conn (λ d n. want_on_another p.conn d p.call made n) w.others plans
      (record {
        unheard = λ none.
            let wired : is_wired (journal past p.conn) ≡ true = has_wire heard telling p.conn p.call (journal past p.conn) (slot before p.conn) (slot after p.conn) w.wanted (fit p.conn) in
            let clash : false ≡ true = sym (ap is_wired none) ∙ wired in absurd cc;
        told = subst (λ (all : Aside). RecordsAside heard all (slot after p.conn)) (sym (want_on_its_wire p.conn p.call made))
            (wanted_in heard p.call (aside_on made p.conn) (slot before p.conn) (slot after p.conn) w.wanted (plans p.conn).told);
      })

  -- The fleet has nothing to record of it.
  pub wanted_told : (telling : Bool) (made : List Made) → WiresFit heard telling past before → fleet_told (WantedOn p.conn p.call ∷ made) past ≡ fleet_told made past
  wanted_told telling made fit =
      unshut_told p.conn made (WantedOn p.conn p.call ∷ made) past refl (λ d n. want_on_another p.conn d p.call made n)
      (open_wired (journal past p.conn) (has_wire heard telling p.conn p.call (journal past p.conn) (slot before p.conn) (slot after p.conn) w.wanted (fit p.conn)))
