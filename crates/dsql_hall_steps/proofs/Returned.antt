-- A hall as a client comes back. The argument is that its bond's work is out, so there is a slot for its wire, whatever
-- becomes of its answer.
use Rattle.std.proofs.Common.{◌≡◌, ◌≢◌, ◌<◌, ◌≤◌, ◌+◌, ◌-◌, ℕ, Bool, true, false, List, length, set, Option, Some, None, is_some, refl, ap, sym, subst, ◌∙◌, arith}
use Rattle.dsql_engine_laws.specs.driver.Wires.{WireTold}
use Rattle.dsql_engine_laws.specs.journal.declared.entry.Entry.{Entry}
use Rattle.dsql_engine_laws.specs.laws_steps.Groups.{most_events}
use Rattle.dsql_engine_laws.specs.wire.Journaled.{Journaled}
use Rattle.dsql_player_wires.specs.Made.{Made}
use Rattle.dsql_player_wires.specs.WiresFit.{slot}
use Rattle.dsql_player.specs.declared.halt.Halt.{Halt}
use Rattle.dsql_player.specs.declared.halt.Halt.TheVariants as halts
use Rattle.dsql_player.specs.Playing.{Playing}
use Rattle.dsql_player.proofs.Answering.{entry_conn}
use Rattle.dsql_hall_bonds.specs.Work.{Work, find, without}
use Rattle.dsql_hall_steps.specs.Errands.{Brought, IsBack, IsUnheard, IsWorkOf, Sent}
use Rattle.dsql_hall_steps.specs.Halls.{HasHome, InHall, IsHall, Keeps, MayComeBack, house}
use Rattle.dsql_hall_steps.specs.Terms.{Terms}
use Rattle.dsql_hall_steps.proofs.Answered.{TookIn, heard_on}
use Rattle.dsql_hall_steps.proofs.Carrying.{back_home, slot_set, some_away, stopped_hall}

module _ {W : Type 0} (heard : W → Option WireTold) (race : Terms) (h : InHall W) (work : Work) (conn : ℕ) (is : IsHall heard race h) (its : work.conn ≡ conn) (was_out : find work.conn h.out ≡ Some work) where
  is_out : find conn h.out ≡ Some work
  is_out = ap (λ c. find c h.out) (sym its) ∙ was_out

  pub it_counts : 1 ≤ h.away
  it_counts = some_away conn work h.slots h.out h.away is_out is.back

  home : HasHome h.slots conn
  home = let back = is.back in back.homes conn work is_out

  -- There is a slot for its wire, and the slot is empty.
  pub has_room : conn < house → conn < length h.slots
  has_room number = home.room (λ same. absurd (omega (arith, number, same)))

  pub has_space : slot h.slots conn ≡ None
  has_space = home.empty

  module _ (wire : Journaled W) (slots : List (Option (Journaled W))) (out : List Work) (in_slot : slots ≡ set h.slots conn (Some wire)) (struck : out ≡ without work.conn h.out) where
    left : h.away ≡ (h.away - 1) + 1
    left = let counts = it_counts in omega (arith, counts)

    struck_here : out ≡ without conn h.out
    struck_here = struck ∙ ap (λ c. without c h.out) its

    comes_back : MayComeBack slots out (h.away - 1)
    comes_back =
        subst (λ s. MayComeBack s out (h.away - 1)) (sym in_slot)
        (subst (λ o. MayComeBack (set h.slots conn (Some wire)) o (h.away - 1)) (sym struck_here)
        (back_home conn work h.slots (set h.slots conn (Some wire)) h.out h.away (h.away - 1) (slot_set h.slots conn (Some wire)) is_out left is.back))

    -- If the run had stopped, only the wire comes home.
    pub back_stopped : is_some h.stopped ≡ true → IsHall heard race (record h { slots = slots; out = out; away = h.away - 1 })
    back_stopped stopped = record {
      keeps = is.keeps;
      back = comes_back;
      full = is.full;
      well = λ none. let clash : false ≡ true = sym (ap is_some none) ∙ stopped in absurd cc;
    }

    -- If the answer can't be taken in, the run stops.
    pub back_stops : (q : Playing) (halt : Halt) → q ≡ h.player → (halt ≡ halts.Full → most_events ≤ length q.past)
        → IsHall heard race (record h { player = q; slots = slots; out = out; away = h.away - 1; stopped = Some halt })
    back_stops q halt same full =
        stopped_hall heard race (record h { player = q; slots = slots; out = out; away = h.away - 1; stopped = Some halt }) halt refl
        (subst (λ p. Keeps race p h.settings) (sym same) is.keeps) comes_back full

-- The number of the connection is below the house's.
pub its_number : (work : Work) (its conn : ℕ) → IsWorkOf work its → work.conn ≡ conn → conn < house
its_number work its conn is at = subst (λ c. c < house) (sym is.conn ∙ at) is.number

-- The work of what came back is of the connection of its entry.
pub back_conn : {W : Type 0} (heard : W → Option WireTold) (telling : Bool) (made : List Made) (back : Brought W) (e : Entry) → IsBack heard telling made back → e ≡ back.entry → back.work.conn ≡ e.conn
back_conn heard telling made back e brought is = brought.work.conn ∙ (sym (entry_conn back.work.permit back.entry brought.entry) ∙ sym (ap (λ (x : Entry). x.conn) is))

-- So is that of an errand without an answer.
pub unheard_conn : {W : Type 0} (it : Sent W) (conn : ℕ) → IsUnheard it → conn ≡ it.work.permit.conn → it.work.conn ≡ conn
unheard_conn it conn unheard at = unheard.work.conn ∙ sym at

-- If the answer is taken in, the call goes on with it.
pub back_heard : {W : Type 0} (heard : W → Option WireTold) (race : Terms) (h : InHall W) (back : Brought W) (conn : ℕ) (q : Playing) (slots : List (Option (Journaled W))) (out : List Work) → IsHall heard race h → h.stopped ≡ None
    → IsBack heard race.telling race.made back → find back.work.conn h.out ≡ Some back.work → back.work.permit.call_no ≢ 0 → back.entry.conn ≡ conn
    → slots ≡ set h.slots conn (Some back.wire) → out ≡ without back.work.conn h.out → TookIn back.client back.entry h.player q
    → IsHall heard race (record h { player = q; slots = slots; out = out; away = h.away - 1 })
back_heard {W} heard race h back conn q slots out is runs brought was_out of_a_call its in_slot struck took =
    subst (λ s. IsHall heard race (record h { player = q; slots = s; out = out; away = h.away - 1 })) (sym (in_slot ∙ ap (λ c. set h.slots c (Some back.wire)) at))
    (subst (λ o. IsHall heard race (record h { player = q; slots = set h.slots back.work.permit.conn (Some back.wire); out = o; away = h.away - 1 })) (sym (struck ∙ ap (λ c. without c h.out) brought.work.conn))
    (heard_on heard race h back is runs brought was_out of_a_call q took brought.work.number (h.away - 1) left))
  where
    at : conn ≡ back.work.permit.conn
    at = sym its ∙ entry_conn back.work.permit back.entry brought.entry

    left : h.away ≡ (h.away - 1) + 1
    left = let counts = it_counts heard race h back.work back.work.conn is refl was_out in omega (arith, counts)
