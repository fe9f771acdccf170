-- An errand goes out of the hall, its driver call is made, and it comes back. The argument is that leave lets the wire
-- send the driver call, and that the wire then has heard its answer and nothing besides.
use Rattle.std.proofs.Common.{◌≡◌, ◌<◌, ◌⊎◌, inl, inr, ◌+◌, ℕ, zero, suc, Bool, true, List, [], ◌∷◌, length, set, Option, Some, None, refl, ap, sym, subst, ◌∙◌, arith, length-set}
use Rattle.std.specs.Prelude.{is_some}
use Rattle.dsql_engine_laws.specs.driver.Wires.{WireTold, with_call}
use Rattle.dsql_engine_laws.specs.driver.declared.call.DriverCall.{DriverCall}
use Rattle.dsql_engine_laws.specs.journal.declared.entry.Entry.{Entry}
use Rattle.dsql_engine_laws.specs.journal.declared.entry.Permit.{Permit}
use Rattle.dsql_engine_laws.specs.journal.HandlesAndCursors.{fits_at_its_place}
use Rattle.dsql_engine_laws.specs.tenure.Judged.{answered}
use Rattle.dsql_engine_laws.specs.history.Readers.Clients.{client_of}
use Rattle.dsql_engine_laws.specs.history.Readers.Journals.{journal}
use Rattle.dsql_engine_laws.specs.wire.Journaled.{Journaled, MayBeSent}
use Rattle.dsql_engine_laws.proofs.laws_ends.Whose.{busy_own}
use Rattle.dsql_engine_laws.proofs.Leave.{leave_sends}
use Rattle.dsql_player_wires.specs.Made.{Made, aside_on}
use Rattle.dsql_player_wires.specs.Seats.{seat}
use Rattle.dsql_player_wires.specs.WiresFit.{Hears, HoldsWire, SameHeard, Wants, RecordsAside, is_wired, slot}
use Rattle.dsql_player_wires.proofs.Plans.{heard_plans}
use Rattle.dsql_player_wires.proofs.Slots.{set_default}
use Rattle.dsql_player_wires.proofs.Wiring.{some_wired, still_some}
use Rattle.dsql_player.specs.Playing.{Playing}
use Rattle.dsql_player.proofs.Answering.{HasLeave, leave_at}
use Rattle.dsql_hall_bonds.specs.Work.{Work, find}
use Rattle.dsql_hall_steps.specs.Errands.{IsBack, IsErrand, IsUnheard, IsWireFor, LacksAnswer, Sent}
use Rattle.dsql_hall_steps.specs.Halls.{GoesOn, InHall, IsAtHome, IsHall, IsOut, SlotFits, house}
use Rattle.dsql_hall_steps.specs.Terms.{Terms}
use Rattle.dsql_hall_steps.proofs.Carrying.{none_is_out, sent_back, sent_fits, sent_house, sent_work, slot_set}

-- A slot that has a wire is one of the list.
pub slot_room : {W : Type 0} (slots : List (Option W)) (c : ℕ) (wire : W) → slot slots c ≡ Some wire → c < length slots
slot_room [] c wire at = absurd cc
slot_room (x ∷ slots) zero wire at = omega arith
slot_room (x ∷ slots) (suc c) wire at = let rest = slot_room slots c wire at in omega (arith, rest)

-- The wire of a slot whose connection has no work out.
pub wire_at_home : {W : Type 0} (heard : W → Option WireTold) (telling : Bool) (made : List Made) (work : Work) (c : ℕ) (wire : Journaled W) → work.permit.conn ≡ c → IsAtHome heard telling made work.past c (Some wire)
    → IsWireFor heard telling made work wire × (wire.journal ≡ journal work.past c)
wire_at_home {W} heard telling made work c wire its home =
    let j = journal work.past c in
    let holds : HoldsWire heard telling c j (Some wire) = some_wired heard telling c j (Some wire) (is_wired j) refl home.fits in (
      record {
        conn = holds.conn ∙ sym its;
        tells = holds.tells;
        plans = subst (λ k. RecordsAside heard (aside_on made k) (Some wire)) (sym its) home.plans.told;
      },
      holds.journal,
    )

module _ {W : Type 0} (heard : W → Option WireTold) (race : Terms) (h : InHall W) (client : ℕ) (permit : Permit) (wire : Journaled W) (is : IsHall heard race h) (runs : h.stopped ≡ None) (leave : (seat h.player.seats client).permit ≡ Some permit) (at : slot h.slots permit.conn ≡ Some wire) (number : permit.conn < house) where
  abbrev p : Playing
  p = h.player

  abbrev c : ℕ
  c = permit.conn

  -- The work that goes out.
  abbrev pub work_of : Work
  work_of = record { conn = c; permit = permit; past = p.past }

  on : GoesOn heard race h
  on = is.well runs

  has : HasLeave p client permit
  has = leave_at p client permit on.ready leave

  pub none_out : find c h.out ≡ None
  none_out = none_is_out h.slots h.out h.away c wire is.back at

  home : IsAtHome heard race.telling race.made p.past c (Some wire)
  home =
      subst (λ o. SlotFits heard race.telling race.made p.past c (Some wire) o) none_out
      (subst (λ w. SlotFits heard race.telling race.made p.past c w (find c h.out)) at (on.fits c))

  its_client : client_of p.past permit.call_no ≡ client
  its_client = ap (client_of p.past) has.call ∙ busy_own p.past client has.busy

  errand : IsErrand heard race.telling race.made (record { work = work_of; client = client; wire = wire })
  errand =
      let its = wire_at_home heard race.telling race.made work_of c wire refl home in
      record {
        work = record { conn = refl; number = number; client = λ some. sym its_client };
        wire = its.0;
        journal = its.1;
        sends =
            subst (λ j. MayBeSent wire.conn j permit) (sym its.1)
            (subst (λ k. MayBeSent k (journal p.past c) permit) (sym its.0.conn) (leave_sends p.past permit on.ready.legal.lawful has.leave));
      }

  -- The errand has the permit of its bond.
  pub sent_is : (bond : Work) → bond ≡ work_of → (permit ≡ bond.permit) × IsErrand heard race.telling race.made (record { work = bond; client = client; wire = wire })
  sent_is bond is_bond =
      subst (λ (work : Work). (permit ≡ work.permit) × IsErrand heard race.telling race.made (record { work = work; client = client; wire = wire })) (sym is_bond) (refl, errand)

  is_out : IsOut p h.chore c work_of
  is_out = record {
    client = λ some. record { conn = refl; client = refl; leave = subst (λ k. (seat p.seats k).permit ≡ Some permit) (sym its_client) leave };
    layer = λ none apart. absurd (has.leave.of_a_call none);
  }

  abbrev now : List (Option (Journaled W))
  now = set h.slots c None

  empty : slot now c ≡ None
  empty = set_default h.slots c None

  went_out : IsHall heard race (record h { slots = now; out = work_of ∷ h.out; away = h.away + 1 })
  went_out =
      let changes = slot_set h.slots c None in
      record {
        keeps = is.keeps;
        back = sent_back c work_of h.slots now h.out changes refl none_out empty h.away (omega (arith, number)) (subst (λ n. c < n) (sym (length-set h.slots c None)) (slot_room h.slots c wire at)) is.back;
        full = is.full;
        well = λ none. record {
          ready = on.ready;
          at = on.at;
          fits = sent_fits c work_of h.slots now h.out changes refl none_out empty heard race.telling race.made p.past refl on.fits;
          work = sent_work c work_of h.slots now h.out changes refl none_out empty p h.chore h.chore is_out (λ d it found out. out) on.work;
          fleet = sent_house c work_of h.slots now h.out changes refl none_out empty race.made p.past (λ same. absurd (omega (arith, number, same))) on.fleet;
        };
      }

  -- The hall after the errand went out.
  pub sent_on : (slots : List (Option (Journaled W))) (out : List Work) → slots ≡ now → out ≡ work_of ∷ h.out → IsHall heard race (record h { slots = slots; out = out; away = h.away + 1 })
  sent_on slots out taken tied =
      subst (λ s. IsHall heard race (record h { slots = s; out = out; away = h.away + 1 })) (sym taken)
      (subst (λ o. IsHall heard race (record h { slots = now; out = o; away = h.away + 1 })) (sym tied) went_out)

-- The driver call is made.

module _ {W : Type 0} (heard : W → Option WireTold) (telling : Bool) (made : List Made) (it : Sent W) (wire : Journaled W) (is : IsErrand heard telling made it) where
  abbrev told_aside : Option (Journaled W) → Type 0
  told_aside w = RecordsAside heard (aside_on made it.work.permit.conn) w

  -- The answer comes back.
  pub performed : (e : Entry) → e ≡ answered it.work.permit e.answer → fits_at_its_place it.wire.journal e ≡ true → Hears heard e it.wire wire
      → IsBack heard telling made (record { work = it.work; client = it.client; wire = wire; entry = e })
  performed e entry fits hears = record {
    work = is.work;
    wire = record {
      conn = hears.conn ∙ is.wire.conn;
      tells = λ all. ap is_some hears.told ∙ (still_some (with_call (e.call, e.answer)) (heard it.wire.wire) ∙ is.wire.tells all);
      plans = heard_plans heard e (aside_on made it.work.permit.conn) (Some it.wire) (Some wire) hears is.wire.plans;
    };
    entry = entry;
    fits = subst (λ j. fits_at_its_place j e ≡ true) is.journal fits;
    journal = hears.journal ∙ ap (λ j. e ∷ j) is.journal;
  }

  -- No answer came.
  pub lacking : (call : DriverCall) → ((it.wire.spare ≡ 0) × SameHeard heard it.wire wire) ⊎ Wants heard call it.wire wire → IsUnheard (record { work = it.work; client = it.client; wire = wire })
  lacking call (inl same) = let s = same.1 in record { work = is.work; conn = s.conn ∙ is.wire.conn; journal = s.journal ∙ is.journal }
  lacking call (inr wants) = record { work = is.work; conn = wants.conn ∙ is.wire.conn; journal = wants.journal ∙ is.journal }

-- What an error says of the wire holds of the errand and of what comes back.
pub lacks_answer : {W : Type 0} (heard : W → Option WireTold) (it before after : Sent W) (permit : Permit) → it ≡ before → permit ≡ it.work.permit
    → ((it.wire.spare ≡ 0) × SameHeard heard it.wire after.wire) ⊎ Wants heard permit.call it.wire after.wire → LacksAnswer heard before after
lacks_answer {W} heard it before after permit was same lacks =
    subst (λ (b : Sent W). LacksAnswer heard b after) was
    (subst (λ (p : Permit). ((it.wire.spare ≡ 0) × SameHeard heard it.wire after.wire) ⊎ Wants heard p.call it.wire after.wire) same lacks)
