-- A hall that takes in the answer to one of the layer's own driver calls. The bond ties the answer to the driver call
-- that is due at present, and no other one of the layer is out.
use Rattle.std.proofs.Common.{◌≡◌, ◌≢◌, ◌<◌, ◌≤◌, inl, inr, ◌+◌, ℕ, true, List, ◌∷◌, Option, Some, None, Result, Ok, Err, OnOk, refl, ap, sym, subst, ◌∙◌, arith}
use Rattle.dsql_engine_laws.specs.driver.Wires.{WireTold}
use Rattle.dsql_engine_laws.specs.journal.declared.entry.Entry.{Entry}
use Rattle.dsql_engine_laws.specs.journal.HandlesAndCursors.{fits_at_its_place}
use Rattle.dsql_engine_laws.specs.tenure.Judged.{answered}
use Rattle.dsql_engine_laws.specs.history.declared.event.Event.{Event}
use Rattle.dsql_engine_laws.specs.history.declared.event.Event.TheVariants.{Heard}
use Rattle.dsql_engine_laws.specs.going.Permits.{chore_permit}
use Rattle.dsql_engine_laws.specs.history.Legal.{Lawful}
use Rattle.dsql_engine_laws.specs.history.Readers.Journals.{journal}
use Rattle.dsql_engine_laws.specs.follows.Moments.{Moment}
use Rattle.dsql_engine_laws.specs.laws_steps.Groups.{after_heard}
use Rattle.dsql_engine_laws.specs.wire.Journaled.{Journaled}
use Rattle.dsql_engine_laws.proofs.laws.Tests.{other_number}
use Rattle.dsql_player_wires.specs.Made.{Made, aside_on}
use Rattle.dsql_player_wires.specs.Seats.{seat}
use Rattle.dsql_player_wires.specs.Told.{fleet_told, with_heard}
use Rattle.dsql_player_wires.specs.WiresFit.{slot}
use Rattle.dsql_player_wires.proofs.Journals.{same_or_not}
use Rattle.dsql_player_wires.proofs.Reading.{unheard_told}
use Rattle.dsql_player.specs.Apart.{AnswersChore}
use Rattle.dsql_player.specs.Keeping.{SameCourse}
use Rattle.dsql_player.specs.Playing.{IsAt, IsReady, Playing}
use Rattle.dsql_player.specs.Stepping.{IsChoreOn, TakesStep}
use Rattle.dsql_player.proofs.Answering.{entry_conn}
use Rattle.dsql_player.proofs.Grouped.{Grouped, hears_grouped}
use Rattle.dsql_player.proofs.Hearing.{all_quiet, answer_grown}
use Rattle.dsql_hall_bonds.specs.Work.{Work, find, without}
use Rattle.dsql_hall_bonds.proofs.Finding.{find_here, find_other, find_without, find_without_other}
use Rattle.dsql_hall_steps.specs.Halls.{GoesOn, InHall, IsAtHome, IsAway, IsHall, IsOfLayer, IsOut, MayComeBack, SlotFits, house}
use Rattle.dsql_hall_steps.specs.House.{IsOwn, own_work}
use Rattle.dsql_hall_steps.specs.Limits.{set_in}
use Rattle.dsql_hall_steps.specs.Racing.{resting}
use Rattle.dsql_hall_steps.specs.Terms.{Terms}
use Rattle.dsql_hall_steps.proofs.Answered.{answered_journal}
use Rattle.dsql_hall_steps.proofs.Carrying.{ChangesSlot, back_home}
use Rattle.dsql_hall_steps.proofs.Entering.{step_rests}
use Rattle.dsql_hall_steps.proofs.Frames.{Spares, client_stays, clients_step, slot_stays, spares_step}
use Rattle.dsql_hall_steps.proofs.Moving.{not_full, step_keeps}
use Rattle.dsql_hall_steps.proofs.Out.{apart_with, apart_without, found_with, found_without, one_struck}

-- The house's bond is renewed: its work is struck off, and goes out anew.
pub renewed_back : {W : Type 0} (slots : List (Option (Journaled W))) (out : List Work) (away : ℕ) (own new : Work) → new.conn ≡ house → find house out ≡ Some own → MayComeBack slots out away
    → MayComeBack slots (new ∷ without house out) away
renewed_back slots out away own new its found back = record {
  homes = λ d it is. elim (found_with new (without house out) d it is) [
    | inl at ↦
        let same : d ≡ house = at.0 ∙ its in
        record {
          number = subst (λ k. k ≤ house) (sym same) (back.homes house own found).number;
          empty = ap (slot slots) same ∙ (back.homes house own found).empty;
          room = λ other. absurd (other same);
        }
    | inr at ↦ let old = found_without house out d it at.1 in back.homes d it old.1
  ];
  apart = apart_with new (without house out) (ap (λ c. find c (without house out)) its ∙ find_without house out) (apart_without house out back.apart);
  count = let count = back.count in let one = one_struck house own out back.apart found in omega (arith, count, one);
}

-- Holds if the fleet's record goes on from the earlier history to the later one. It has this answer on a connection with
-- this journal more.
pub record FleetGoesOn (made : List Made) (before after : List Event) (e : Entry) (entries : List Entry) : Type 0 where
  pub told : fleet_told made after ≡ with_heard (aside_on made e.conn) e entries (fleet_told made before)

-- An answer sets no limit.
chore_sets : (conn : Option ℕ) (first : Event) (n : ℕ) (past : List Event) → IsChoreOn conn first n → set_in (first ∷ past) ≡ set_in past
chore_sets conn first n past is = ap (λ e. set_in (e ∷ past)) is.heard

-- If the answer is taken in, only the history changes.
pub only_past : {A E : Type 0} (r : Result A E) (p q : Playing) (past : List Event) → IsReady p → OnOk r (IsReady q) → OnOk r (q.past ≡ past) → OnOk r (q.flights ≡ p.flights) → OnOk r (q.seats ≡ p.seats)
    → OnOk r (q.released ≡ p.released) → q.trimmed ≡ p.trimmed → OnOk r (q ≡ record p { past = past })
only_past (Ok it) p q past ready now grown flights seats released trimmed =
    ap (λ x. record q { past = x }) grown
    ∙ (ap (λ x. record q { past = past; trimmed = x }) trimmed
    ∙ (ap (λ x. record q { past = past; trimmed = p.trimmed; flights = x }) flights
    ∙ (ap (λ x. record q { past = past; trimmed = p.trimmed; flights = p.flights; chore = x }) (now.free ∙ sym ready.free)
    ∙ (ap (λ x. record p { past = past; seats = x; released = q.released }) seats
    ∙ ap (λ x. record p { past = past; released = x }) released))))
only_past (Err it) p q past ready now grown flights seats released trimmed = tt

-- What taking in the answer says of the player.
pub record TookChore (e : Entry) (p q : Playing) : Type 0 where
  pub player : q ≡ record p { past = after_heard p.past e }
  pub step : (m : Moment) → IsAt m p → TakesStep m p q (IsChoreOn (Some e.conn))
  pub ready : IsReady q
  pub course : SameCourse p q

-- The work of the layer that is out, which was answered.
pub record IsAnswered (out : List Work) (work : Work) (e : Entry) : Type 0 where
  pub was_out : find work.conn out ≡ Some work
  pub conn : work.conn ≡ work.permit.conn
  pub number : work.conn < house
  pub layer : work.permit.call_no ≡ 0
  pub entry : e ≡ answered work.permit e.answer
  pub fits : fits_at_its_place (journal work.past work.permit.conn) e ≡ true

module _ {W : Type 0} (heard : W → Option WireTold) (race : Terms) (h : InHall W) (work : Work) (e : Entry) (is : IsHall heard race h) (runs : h.stopped ≡ None) (it : IsAnswered h.out work e) where
  abbrev p : Playing
  p = h.player

  abbrev c : ℕ
  c = work.conn

  on : GoesOn heard race h
  on = is.well runs

  other : c ≢ house
  other same = let clash : house < house = subst (λ n. n < house) same it.number in absurd (omega (arith, clash))

  of_layer : IsOfLayer p h.chore c work
  of_layer = let out = on.work c work it.was_out in out.layer it.layer other

  pub away : IsAway p.past c (slot h.slots c) work
  away = subst (λ o. SlotFits heard race.telling race.made p.past c (slot h.slots c) o) it.was_out (on.fits c)

  pub same_journal : journal work.past e.conn ≡ journal p.past e.conn
  same_journal = subst (λ d. journal work.past d ≡ journal p.past d) (it.conn ∙ sym (entry_conn work.permit e it.entry)) (sym away.unheard)

  -- The answer is to the driver call that is due.
  pub answers_chore : AnswersChore p e
  answers_chore = record {
    permit = work.permit;
    leave = subst (λ d. chore_permit p.past d ≡ Some work.permit) it.conn of_layer.due;
    answer = it.entry;
    fits = subst (λ j. fits_at_its_place j e ≡ true) (subst (λ d. journal work.past d ≡ journal p.past d) it.conn (sym away.unheard)) it.fits;
  }

  module _ (q : Playing) (took : TookChore e p q) where
    lawful : Lawful q.past
    lawful = took.ready.legal.lawful

    grown : q.past ≡ after_heard p.past e
    grown = ap (λ (x : Playing). x.past) took.player

    on_it : e.conn ≡ c
    on_it = entry_conn work.permit e it.entry ∙ sym it.conn

    pub group : Grouped p.past q.past (Heard e) e.call_no
    group = subst (λ H. Grouped p.past H (Heard e) e.call_no) (sym grown) (hears_grouped p.past e (subst Lawful grown lawful))

    step : TakesStep (resting race.lines p) p q (IsChoreOn (Some e.conn))
    step = took.step (resting race.lines p) on.at

    -- The connection has heard just the answer.
    pub its_journal : journal q.past c ≡ e ∷ journal p.past c
    its_journal = answered_journal p.past q.past e e.call_no c on_it group

    spares : (d : ℕ) → d ≢ c → Spares d p.past q.past
    spares d apart =
        spares_step d p.past q.past (Heard e) e.call_no group lawful on.ready.legal.settled.nothing_owed (other_number e.conn d (λ same. apart (sym same ∙ on_it)))

    -- What the fleet records goes on with the answer.
    pub told : fleet_told race.made q.past ≡ with_heard (aside_on race.made e.conn) e (journal p.past e.conn) (fleet_told race.made p.past)
    told =
        ap (fleet_told race.made) (answer_grown p.past q.past e e.call_no group)
        ∙ unheard_told race.made group.group.more (Heard e ∷ p.past) (all_quiet e.call_no group.group.more group.group.later)

    module _ (own : Work) (own_out : find house (without c h.out) ≡ Some own) where
      abbrev new : Work
      new = own_work q.past

      left_out : find house h.out ≡ Some own
      left_out = sym (find_without_other c house h.out other) ∙ own_out

      -- The house's bond is renewed.
      owned : IsOwn race.made own → IsOwn race.made new
      owned its = record {
        conn = refl;
        silent =
            let there : IsAway p.past house (slot h.slots house) own = subst (λ o. SlotFits heard race.telling race.made p.past house (slot h.slots house) o) left_out (on.fits house) in
            (spares house (λ same. other (sym same))).journal ∙ (there.unheard ∙ its.silent);
        unplanned = its.unplanned;
      }

      pub own_renewed : (bond : Work) → bond ≡ new → IsOwn race.made own → IsOwn race.made bond
      own_renewed bond tied its = subst (IsOwn race.made) (sym tied) (owned its)

      -- The fleet's record goes on from the history of the house's bond to that of the renewed one.
      pub fleet_goes_on : (bond : Work) → bond ≡ new → FleetGoesOn race.made own.past bond.past e (journal work.past e.conn)
      fleet_goes_on bond tied = record { told = goes }
        where
          goes : fleet_told race.made bond.past ≡ with_heard (aside_on race.made e.conn) e (journal work.past e.conn) (fleet_told race.made own.past)
          goes =
              let there = on.fleet in
              let both : Some there.work ≡ Some own = sym there.is_out ∙ left_out in
              let same : there.work ≡ own = cc in
              ap (λ (w : Work). fleet_told race.made w.past) tied
              ∙ (told
              ∙ (ap (λ j. with_heard (aside_on race.made e.conn) e j (fleet_told race.made p.past)) (sym same_journal)
              ∙ ap (with_heard (aside_on race.made e.conn) e (journal work.past e.conn)) (there.told ∙ ap (λ (w : Work). fleet_told race.made w.past) same)))

      module _ (now : List (Option (Journaled W))) (changes : ChangesSlot c h.slots now) (here : IsAtHome heard race.telling race.made q.past c (slot now c)) where
        abbrev out_now : List Work
        out_now = new ∷ without house (without c h.out)

        none_here : find c out_now ≡ None
        none_here =
            find_other new (without house (without c h.out)) c (λ same. other (sym same))
            ∙ (find_without_other house c (without c h.out) (λ same. other (sym same)) ∙ find_without c h.out)

        as_before : (d : ℕ) → d ≢ c → d ≢ house → find d out_now ≡ find d h.out
        as_before d apart elsewhere =
            find_other new (without house (without c h.out)) d (λ same. elsewhere (sym same))
            ∙ (find_without_other house d (without c h.out) (λ same. elsewhere (sym same)) ∙ find_without_other c d h.out (λ same. apart (sym same)))

        fits_now : (d : ℕ) → SlotFits heard race.telling race.made q.past d (slot now d) (find d out_now)
        fits_now d = elim (same_or_not d c) [
          | inl same ↦
              subst (λ k. SlotFits heard race.telling race.made q.past k (slot now k) (find k out_now)) (sym same)
              (subst (SlotFits heard race.telling race.made q.past c (slot now c)) (sym none_here) here)
          | inr apart ↦ elim (same_or_not d house) [
            | inl same ↦
                subst (λ k. SlotFits heard race.telling race.made q.past k (slot now k) (find k out_now)) (sym same)
                (subst (SlotFits heard race.telling race.made q.past house (slot now house)) (sym (find_here new (without house (without c h.out))))
                (record { gone = changes.others house (λ at. other (sym at)) ∙ (is.back.homes house own left_out).empty; unheard = refl }))
            | inr elsewhere ↦
                subst (λ w. SlotFits heard race.telling race.made q.past d w (find d out_now)) (sym (changes.others d apart))
                (subst (SlotFits heard race.telling race.made q.past d (slot h.slots d)) (sym (as_before d apart elsewhere))
                (slot_stays heard race.telling race.made p.past q.past d (slot h.slots d) (find d h.out) (spares d apart).journal (on.fits d)))
          ]
        ]

        -- Only work of clients is out besides, and each keeps its leave.
        other_work : (d : ℕ) (its : Work) → d ≢ c → find d h.out ≡ Some its → IsOut q None d its
        other_work d its apart found =
            let out : IsOut p h.chore d its = on.work d its found in
            record {
              client = λ some.
                  client_stays p q d its on.ready (clients_step p.past q.past (Heard e) e.call_no group) (λ k has. ap (λ (x : Playing). (seat x.seats k).permit) took.player ∙ has) (out.client some);
              layer = λ none elsewhere.
                  let two : Some c ≡ Some d = sym of_layer.chore ∙ (out.layer none elsewhere).chore in
                  let same : d ≡ c = cc in
                  absurd (apart same);
            }

        own_is_out : IsOut q None house new
        own_is_out = record { client = λ some. absurd (some refl); layer = λ none elsewhere. absurd (elsewhere refl) }

        work_now : (d : ℕ) (its : Work) → find d out_now ≡ Some its → IsOut q None d its
        work_now d its found = elim (found_with new (without house (without c h.out)) d its found) [
          | inl at ↦ subst (λ k. IsOut q None k its) (sym at.0) (subst (λ w. IsOut q None house w) (sym at.1) own_is_out)
          | inr at ↦
              let one = found_without house (without c h.out) d its at.1 in
              let two = found_without c h.out d its one.1 in
              other_work d its two.0 two.1
        ]

        -- The hall after the answer was taken in.
        pub took_on : (left : ℕ) → h.away ≡ left + 1 → IsHall heard race (record h { player = q; slots = now; out = out_now; away = left; chore = None })
        took_on left less = record {
          keeps =
              step_keeps race p q (IsChoreOn (Some e.conn)) step h.settings (λ past. chore_sets (Some e.conn) step.first step.call past step.kind_is) took.ready.legal (ap (λ (x : Playing). x.trimmed) took.player) took.course.ended is.keeps;
          back = renewed_back now (without c h.out) left own new refl own_out (back_home c work h.slots now h.out h.away left changes it.was_out less is.back);
          full = not_full h q.past runs;
          well = λ none. record {
            ready = took.ready;
            at = step_rests race.lines p q (IsChoreOn (Some e.conn)) step lawful;
            fits = fits_now;
            work = work_now;
            fleet = record { work = new; is_out = find_here new (without house (without c h.out)); told = refl };
          };
        }
