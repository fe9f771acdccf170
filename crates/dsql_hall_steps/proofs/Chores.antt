-- The house takes one of the layer's own driver calls out of the hall. While the run goes on, such a call is of a
-- connection that isn't lent, so no client's work is out there.
use Rattle.std.proofs.Common.{◌≡◌, ◌≢◌, ◌<◌, ◌≤◌, inl, inr, ◌+◌, ℕ, true, false, List, [], ◌∷◌, length, set, Option, Some, None, is_some, refl, ap, sym, subst, ◌∙◌, arith, length-set}
use Rattle.std.specs.Prelude.{option_map}
use Rattle.dsql_engine_laws.specs.driver.Kinds.{is_connect, is_shut}
use Rattle.dsql_engine_laws.specs.driver.Wires.{WireTold}
use Rattle.dsql_engine_laws.specs.driver.declared.call.DriverCall.{DriverCall}
use Rattle.dsql_engine_laws.specs.journal.Kinds.{number_of}
use Rattle.dsql_engine_laws.specs.journal.declared.entry.Permit.{Permit}
use Rattle.dsql_engine_laws.specs.pool.declared.conn.Place.{Place}
use Rattle.dsql_engine_laws.specs.pool.declared.conn.Place.TheVariants.{Lent}
use Rattle.dsql_engine_laws.specs.pool.Places.{is_lent}
use Rattle.dsql_engine_laws.specs.history.declared.event.Event.{Event}
use Rattle.dsql_engine_laws.specs.history.Legal.{Lawful}
use Rattle.dsql_engine_laws.specs.history.Readers.Clients.{client_of}
use Rattle.dsql_engine_laws.specs.history.Readers.Course.{has_ended}
use Rattle.dsql_engine_laws.specs.history.Readers.Journals.{journal}
use Rattle.dsql_engine_laws.specs.history.Readers.Pool.{place}
use Rattle.dsql_engine_laws.specs.history.Rules.Line.{tidying}
use Rattle.dsql_engine_laws.specs.going.Permits.{call_permit, chore_at, chore_permit}
use Rattle.dsql_engine_laws.specs.wire.Journaled.{Journaled, MayBeSent}
use Rattle.dsql_engine_laws.specs.Chores.{MayBeMade}
use Rattle.dsql_engine_laws.proofs.Made.{chore_made}
use Rattle.dsql_engine_laws.proofs.Placed.{told_by_kind}
use Rattle.dsql_engine_laws.proofs.Tidied.{tidied_after_end}
use Rattle.dsql_player_wires.specs.WiresFit.{FitsAt, HoldsWire, slot}
use Rattle.dsql_player_wires.proofs.Journals.{same_or_not, shut_only}
use Rattle.dsql_player_wires.proofs.Permits.{sent_wired}
use Rattle.dsql_player_wires.proofs.Slots.{set_default}
use Rattle.dsql_player_wires.proofs.Wiring.{holds_here}
use Rattle.dsql_player.specs.Playing.{Playing}
use Rattle.dsql_player.proofs.Answering.{HasLeave, leave_at}
use Rattle.dsql_hall_bonds.specs.Work.{Work, find}
use Rattle.dsql_hall_steps.specs.Errands.{IsErrand}
use Rattle.dsql_hall_steps.specs.Halls.{GoesOn, InHall, IsAtHome, IsHall, IsOfClient, IsOfLayer, IsOut, SlotFits, house}
use Rattle.dsql_hall_steps.specs.House.{IsShutting}
use Rattle.dsql_hall_steps.specs.Openings.{IsOpening}
use Rattle.dsql_hall_steps.specs.Terms.{Terms}
use Rattle.dsql_hall_steps.proofs.Carrying.{ChangesSlot, sent_back, sent_fits, sent_house, sent_work, slot_set}
use Rattle.dsql_hall_steps.proofs.Sent.{slot_room, wire_at_home}

-- While the run goes on, a connection on which the layer has a driver call to make isn't lent.

some_tidied : (f : DriverCall → Permit) (d : Option DriverCall) (permit : Permit) → option_map f d ≡ Some permit → is_some d ≡ true
some_tidied f None permit is = absurd cc
some_tidied f (Some call) permit is = refl

pub unlent_chore : (past : List Event) (c : ℕ) (permit : Permit) → Lawful past → has_ended past ≡ false → chore_permit past c ≡ Some permit → is_lent (place past c) ≡ false
unlent_chore past c permit l running due = by (place past c) refl due
  where
    by : (at : Option Place) → place past c ≡ at → chore_at past c at ≡ Some permit → is_lent at ≡ false
    by (Some (Lent tenure owner)) at is =
        let ended : has_ended past ≡ true = tidied_after_end past c tenure owner l at (some_tidied (call_permit c tenure owner 0) (tidying past (number_of owner)) permit is) in
        let clash : true ≡ false = sym ended ∙ running in
        absurd cc
    by _ at is = refl

-- So it is a Connect or a Shut.
pub connects_or_shuts : (past : List Event) (c : ℕ) (permit : Permit) → Lawful past → has_ended past ≡ false → chore_permit past c ≡ Some permit → is_connect permit.call ≡ false → is_shut permit.call ≡ false → ⊥
connects_or_shuts past c permit l running due no_connect no_shut =
    let told = told_by_kind past c permit due in
    let clash : true ≡ false = sym (told.tidy no_connect no_shut) ∙ unlent_chore past c permit l running due in
    cc

-- Holds if the run goes on and the layer may make this driver call, while none of its own is out.
pub record MayGoOut {W : Type 0} (heard : W → Option WireTold) (race : Terms) (h : InHall W) (permit : Permit) : Type 0 where
  pub is : IsHall heard race h
  pub runs : h.stopped ≡ None
  pub free : h.chore ≡ None
  pub due : chore_permit h.player.past permit.conn ≡ Some permit
  pub number : permit.conn < house

pub may_go_out : {W : Type 0} (heard : W → Option WireTold) (race : Terms) (h before : InHall W) (permit : Permit) → IsHall heard race h → h ≡ before → before.stopped ≡ None → before.chore ≡ None
    → chore_permit before.player.past permit.conn ≡ Some permit → permit.conn < house → MayGoOut heard race h permit
may_go_out heard race h before permit is was runs free due number = record {
  is = is;
  runs = ap (λ b. b.stopped) was ∙ runs;
  free = ap (λ b. b.chore) was ∙ free;
  due = ap (λ b. chore_permit b.player.past permit.conn) was ∙ due;
  number = number;
}

module _ {W : Type 0} (heard : W → Option WireTold) (race : Terms) (h : InHall W) (permit : Permit) (may : MayGoOut heard race h permit) where
  abbrev p : Playing
  p = h.player

  abbrev c : ℕ
  c = permit.conn

  -- The work that goes out.
  abbrev pub work_of : Work
  work_of = record { conn = c; permit = permit; past = p.past }

  on : GoesOn heard race h
  on = may.is.well may.runs

  l : Lawful p.past
  l = on.ready.legal.lawful

  other : c ≢ house
  other same = let clash : house < house = subst (λ n. n < house) same may.number in absurd (omega (arith, clash))

  pub may_be_made : MayBeMade p.past c permit
  may_be_made = chore_made p.past c permit l on.ready.legal.settled.nothing_owed may.due

  unlent : is_lent (place p.past c) ≡ false
  unlent = unlent_chore p.past c permit l may.is.keeps.running may.due

  -- No work is out on the connection.
  pub none_out : find c h.out ≡ None
  none_out = by (find c h.out) refl
    where
      of_layer : (work : Work) → IsOfLayer p h.chore c work → ⊥
      of_layer work it = let clash : None ≡ Some c = sym may.free ∙ it.chore in cc

      of_client : (work : Work) → IsOfClient p c work → ⊥
      of_client work it =
          let has : HasLeave p (client_of p.past work.permit.call_no) work.permit = leave_at p (client_of p.past work.permit.call_no) work.permit on.ready it.leave in
          let lent : is_lent (place p.past work.permit.conn) ≡ true = ap is_lent has.leave.lent in
          let clash : true ≡ false = sym lent ∙ (ap (λ k. is_lent (place p.past k)) it.conn ∙ unlent) in
          cc

      by : (o : Option Work) → find c h.out ≡ o → find c h.out ≡ None
      by None at = at
      by (Some work) at =
          let out : IsOut p h.chore c work = on.work c work at in
          elim (same_or_not work.permit.call_no 0) [
            | inl none ↦ absurd (of_layer work (out.layer none other))
            | inr some ↦ absurd (of_client work (out.client some))
          ]

  home : IsAtHome heard race.telling race.made p.past c (slot h.slots c)
  home = subst (λ o. SlotFits heard race.telling race.made p.past c (slot h.slots c) o) none_out (on.fits c)

  is_out : IsOut p (Some c) c work_of
  is_out = record {
    client = λ some. absurd (some may_be_made.layer);
    layer = λ none apart. record { conn = refl; chore = refl; due = may.due; unlent = unlent };
  }

  still : (d : ℕ) (it : Work) → find d h.out ≡ Some it → IsOut p h.chore d it → IsOut p (Some c) d it
  still d it found out = record {
    client = out.client;
    layer = λ none apart. let its = out.layer none apart in let clash : None ≡ Some d = sym may.free ∙ its.chore in absurd cc;
  }

  -- The hall after the driver call went out, with the connection's slot empty.
  pub chore_on : (now : List (Option (Journaled W))) → ChangesSlot c h.slots now → slot now c ≡ None → c < length now
      → IsHall heard race (record h { slots = now; out = work_of ∷ h.out; away = h.away + 1; chore = Some c })
  chore_on now changes empty room = record {
    keeps = may.is.keeps;
    back = sent_back c work_of h.slots now h.out changes refl none_out empty h.away (let number = may.number in omega (arith, number)) room may.is.back;
    full = may.is.full;
    well = λ none. record {
      ready = on.ready;
      at = on.at;
      fits = sent_fits c work_of h.slots now h.out changes refl none_out empty heard race.telling race.made p.past refl on.fits;
      work = sent_work c work_of h.slots now h.out changes refl none_out empty p h.chore (Some c) is_out still on.work;
      fleet = sent_house c work_of h.slots now h.out changes refl none_out empty race.made p.past other on.fleet;
    };
  }

  -- A Connect goes out.

  module _ (connects : is_connect permit.call ≡ true) where
    unheard : journal p.past c ≡ []
    unheard = (may_be_made.first connects).1

    pub no_wire : slot h.slots c ≡ None
    no_wire = subst (λ j. FitsAt heard race.telling c j (slot h.slots c)) unheard home.fits

    opening : IsOpening race.made work_of
    opening = record {
      conn = refl;
      number = may.number;
      layer = may_be_made.layer;
      connects = connects;
      opens = (may_be_made.first connects).0;
      unheard = unheard;
      unplanned = home.plans.unheard unheard;
    }

    pub opening_is : (bond : Work) → bond ≡ work_of → (permit ≡ bond.permit) × IsOpening race.made bond
    opening_is bond tied = (ap (λ (w : Work). w.permit) (sym tied), subst (IsOpening race.made) (sym tied) opening)

    -- The slot was made before.
    pub connect_on : (now : List (Option (Journaled W))) (out : List Work) → ((d : ℕ) → slot now d ≡ slot h.slots d) → length h.slots ≤ length now → c < length now → out ≡ work_of ∷ h.out
        → IsHall heard race (record h { slots = now; out = out; away = h.away + 1; chore = Some c })
    connect_on now out same many room tied =
        subst (λ o. IsHall heard race (record h { slots = now; out = o; away = h.away + 1; chore = Some c })) (sym tied)
        (chore_on now (record { others = λ d apart. same d; many = many }) (same c ∙ no_wire) room)

  -- A Shut goes out.

  module _ (shuts : is_shut permit.call ≡ true) where
    holds : HoldsWire heard race.telling c (journal p.past c) (slot h.slots c)
    holds =
        holds_here heard race.telling c (journal p.past c) (slot h.slots c)
        (sent_wired c (journal p.past c) permit may_be_made.sent (shut_only permit.call shuts)) home.fits

    pub has_wire : is_some (slot h.slots c) ≡ true
    has_wire = by (slot h.slots c) holds
      where
        by : (w : Option (Journaled W)) → HoldsWire heard race.telling c (journal p.past c) w → is_some w ≡ true
        by None none = absurd none
        by (Some wire) its = refl

    pub shutting_is : (bond : Work) → bond ≡ work_of → IsShutting bond
    shutting_is bond tied = subst IsShutting (sym tied) (record { number = may.number; layer = may_be_made.layer; shuts = shuts })

    module _ (wire : Journaled W) (at : slot h.slots c ≡ Some wire) where
      errand : IsErrand heard race.telling race.made (record { work = work_of; client = 0; wire = wire })
      errand =
          let its = wire_at_home heard race.telling race.made work_of c wire refl (subst (λ w. IsAtHome heard race.telling race.made p.past c w) at home) in
          record {
            work = record { conn = refl; number = may.number; client = λ some. absurd (some may_be_made.layer) };
            wire = its.0;
            journal = its.1;
            sends =
                subst (λ j. MayBeSent wire.conn j permit) (sym its.1)
                (subst (λ k. MayBeSent k (journal p.past c) permit) (sym its.0.conn) may_be_made.sent);
          }

      pub errand_is : (bond : Work) → bond ≡ work_of → (permit ≡ bond.permit) × IsErrand heard race.telling race.made (record { work = bond; client = 0; wire = wire })
      errand_is bond tied =
          (ap (λ (w : Work). w.permit) (sym tied), subst (λ w. IsErrand heard race.telling race.made (record { work = w; client = 0; wire = wire })) (sym tied) errand)

      pub shut_on : (now : List (Option (Journaled W))) (out : List Work) → now ≡ set h.slots c None → out ≡ work_of ∷ h.out
          → IsHall heard race (record h { slots = now; out = out; away = h.away + 1; chore = Some c })
      shut_on now out emptied tied =
          subst (λ s. IsHall heard race (record h { slots = s; out = out; away = h.away + 1; chore = Some c })) (sym emptied)
          (subst (λ o. IsHall heard race (record h { slots = set h.slots c None; out = o; away = h.away + 1; chore = Some c })) (sym tied) taken)
        where
          taken : IsHall heard race (record h { slots = set h.slots c None; out = work_of ∷ h.out; away = h.away + 1; chore = Some c })
          taken =
              chore_on (set h.slots c None) (slot_set h.slots c None) (set_default h.slots c None)
              (subst (λ n. c < n) (sym (length-set h.slots c None)) (slot_room h.slots c wire at))
