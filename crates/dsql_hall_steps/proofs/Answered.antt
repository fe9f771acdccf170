-- A hall that takes in the answer to a client's driver call. The argument is that the bond ties the answer to the leave
-- that the client has at present, and to the connection's journal at present.
use Rattle.std.proofs.Common.{◌≡◌, ◌≢◌, ◌<◌, inl, inr, ◌+◌, ℕ, true, false, List, [], ◌∷◌, set, Option, Some, None, refl, ap, sym, subst, ◌∙◌, arith, get_or-set_same}
use Rattle.std.specs.Prelude.{MatchBool}
use Rattle.dsql_engine_laws.specs.driver.Kinds.{is_connect, is_shut}
use Rattle.dsql_engine_laws.specs.driver.Wires.{WireTold}
use Rattle.dsql_engine_laws.specs.journal.declared.entry.Entry.{Entry}
use Rattle.dsql_engine_laws.specs.journal.declared.entry.Permit.{Permit}
use Rattle.dsql_engine_laws.specs.journal.HandlesAndCursors.{fits_at_its_place}
use Rattle.dsql_engine_laws.specs.history.declared.event.Event.{Event}
use Rattle.dsql_engine_laws.specs.history.declared.event.Event.TheVariants.{Heard}
use Rattle.dsql_engine_laws.specs.history.Legal.{Lawful, Legal}
use Rattle.dsql_engine_laws.specs.history.Readers.Clients.{call_of}
use Rattle.dsql_engine_laws.specs.history.Readers.Journals.{journal}
use Rattle.dsql_engine_laws.specs.laws_steps.Groups.{after_heard}
use Rattle.dsql_engine_laws.specs.wire.Journaled.{Journaled}
use Rattle.dsql_engine_laws.proofs.laws.Tests.{other_number}
use Rattle.dsql_engine_laws.proofs.Leave.{leave_opens_none, leave_sends, leave_shuts_none}
use Rattle.dsql_wire.proofs.Answered.{makes}
use Rattle.dsql_player_wires.specs.Seats.{seat}
use Rattle.dsql_player_wires.specs.WiresFit.{FitsAt, HoldsWire, is_wired, slot}
use Rattle.dsql_player_wires.proofs.Journals.{journal_here, same_or_not, still_wired, unheard}
use Rattle.dsql_player_wires.proofs.Permits.{sent_wired}
use Rattle.dsql_player_wires.proofs.Slots.{slot_elsewhere}
use Rattle.dsql_player.specs.Acts.{SamePermitsBut}
use Rattle.dsql_player.specs.Apart.{AnswersLeave}
use Rattle.dsql_player.specs.Keeping.{SameCourse}
use Rattle.dsql_player.specs.Playing.{IsReady, Playing}
use Rattle.dsql_player.specs.Stepping.{HearsAnswer, IsAnswerTo, TakesStep}
use Rattle.dsql_player.proofs.Answering.{HasLeave, entry_conn, leave_at}
use Rattle.dsql_player.proofs.Grouped.{Grouped, hears_grouped}
use Rattle.dsql_player.proofs.Hearing.{all_quiet, answer_grown, answer_told}
use Rattle.dsql_player.proofs.Standing.{answer_taken, has_lines}
use Rattle.dsql_hall_bonds.specs.Work.{Work, find, without}
use Rattle.dsql_hall_bonds.proofs.Finding.{find_without, find_without_other}
use Rattle.dsql_hall_steps.specs.Errands.{Brought, IsBack}
use Rattle.dsql_hall_steps.specs.Halls.{GoesOn, InHall, IsAtHome, IsAway, IsHall, IsOfClient, IsOut, SlotFits, house}
use Rattle.dsql_hall_steps.specs.Limits.{set_in}
use Rattle.dsql_hall_steps.specs.Racing.{resting}
use Rattle.dsql_hall_steps.specs.Terms.{Terms}
use Rattle.dsql_hall_steps.proofs.Carrying.{back_home, slot_set}
use Rattle.dsql_hall_steps.proofs.Entering.{step_rests}
use Rattle.dsql_hall_steps.proofs.Frames.{Spares, clients_step, out_stays, slot_stays, spares_step}
use Rattle.dsql_hall_steps.proofs.Moving.{not_full, step_keeps}
use Rattle.dsql_hall_steps.proofs.Out.{found_without}

-- What taking in the answer says of the player.
pub record TookIn (client : ℕ) (e : Entry) (p q : Playing) : Type 0 where
  pub past : q.past ≡ after_heard p.past e
  pub hears : HearsAnswer (call_of p.past client) p q
  pub handed : SamePermitsBut client p.seats q.seats
  pub ready : IsReady q
  pub course : SameCourse p q
  pub legal : Legal q.past
  pub trimmed : q.trimmed ≡ p.trimmed

-- An answer sets no limit.
answer_sets : (first : Event) (e : Entry) (past : List Event) → first ≡ Heard e → set_in (first ∷ past) ≡ set_in past
answer_sets first e past is = ap (λ x. set_in (x ∷ past)) is

-- The journal of a connection after an answer on it.
pub answered_journal : (past history : List Event) (e : Entry) (n c : ℕ) → e.conn ≡ c → Grouped past history (Heard e) n → journal history c ≡ e ∷ journal past c
answered_journal past history e n c its g =
    ap (λ H. journal H c) (answer_grown past history e n g)
    ∙ (unheard g.group.more (Heard e ∷ past) c (all_quiet n g.group.more g.group.later) ∙ subst (λ k. journal (Heard e ∷ past) k ≡ e ∷ journal past k) its (journal_here past e))

module _ {W : Type 0} (heard : W → Option WireTold) (race : Terms) (h : InHall W) (back : Brought W) (is : IsHall heard race h) (runs : h.stopped ≡ None) (brought : IsBack heard race.telling race.made back) (was_out : find back.work.conn h.out ≡ Some back.work) (of_a_call : back.work.permit.call_no ≢ 0) where
  abbrev p : Playing
  p = h.player

  abbrev permit : Permit
  permit = back.work.permit

  abbrev c : ℕ
  c = back.work.permit.conn

  abbrev e : Entry
  e = back.entry

  on : GoesOn heard race h
  on = is.well runs

  pub its_out : find c h.out ≡ Some back.work
  its_out = ap (λ k. find k h.out) (sym brought.work.conn) ∙ was_out

  of_client : IsOfClient p c back.work
  of_client = let it = on.work c back.work its_out in it.client of_a_call

  away : IsAway p.past c (slot h.slots c) back.work
  away = subst (λ o. SlotFits heard race.telling race.made p.past c (slot h.slots c) o) its_out (on.fits c)

  leave : (seat p.seats back.client).permit ≡ Some permit
  leave = subst (λ k. (seat p.seats k).permit ≡ Some permit) (of_client.client ∙ sym (brought.work.client of_a_call)) of_client.leave

  -- The answer is to the driver call for which the client has leave.
  pub answers_leave : AnswersLeave p back.client e
  answers_leave = record {
    permit = permit;
    leave = leave;
    answer = brought.entry;
    fits = subst (λ j. fits_at_its_place j e ≡ true) (sym away.unheard) brought.fits;
  }

  module _ (q : Playing) (took : TookIn back.client e p q) (number : c < house) where
    other : c ≢ house
    other same = absurd (omega (arith, number, same))

    lawful : Lawful q.past
    lawful = took.legal.lawful

    has : HasLeave p back.client permit
    has = leave_at p back.client permit on.ready leave

    on_it : e.conn ≡ c
    on_it = entry_conn permit e brought.entry

    of_call : e.call ≡ permit.call
    of_call = (makes permit e.answer e brought.entry).call

    opens : is_connect permit.call ≡ false
    opens = leave_opens_none p.past permit on.ready.legal.lawful has.leave

    shuts : is_shut permit.call ≡ false
    shuts = leave_shuts_none p.past permit on.ready.legal.lawful has.leave

    group : Grouped p.past q.past (Heard e) e.call_no
    group = subst (λ H. Grouped p.past H (Heard e) e.call_no) (sym took.past) (hears_grouped p.past e (subst Lawful took.past lawful))

    step : TakesStep (resting race.lines p) p q (IsAnswerTo (call_of p.past back.client))
    step = answer_taken (resting race.lines p) (call_of p.past back.client) p q (has_lines (resting race.lines p) p on.at) on.at.rest refl lawful took.hears

    abbrev now : List (Option (Journaled W))
    now = set h.slots c (Some back.wire)

    -- The wire is at home, and has heard just what the history says.
    its_journal : journal q.past c ≡ e ∷ journal p.past c
    its_journal = answered_journal p.past q.past e e.call_no c on_it group

    holds : HoldsWire heard race.telling c (e ∷ journal p.past c) (Some back.wire)
    holds = record {
      conn = brought.wire.conn;
      journal = brought.journal ∙ ap (λ j. e ∷ j) (sym away.unheard);
      tells = brought.wire.tells;
    }

    wired : is_wired (e ∷ journal p.past c) ≡ true
    wired =
        still_wired e (journal p.past c) (ap is_connect of_call ∙ opens) (ap is_shut of_call ∙ shuts)
        ∙ sent_wired c (journal p.past c) permit (leave_sends p.past permit on.ready.legal.lawful has.leave) opens

    at_home : IsAtHome heard race.telling race.made q.past c (Some back.wire)
    at_home = record {
      fits = subst (λ j. FitsAt heard race.telling c j (Some back.wire)) (sym its_journal)
          (subst (λ b. MatchBool b (HoldsWire heard race.telling c (e ∷ journal p.past c) (Some back.wire)) (Some back.wire ≡ None)) (sym wired) holds);
      plans = record { unheard = λ nothing. let clash : e ∷ journal p.past c ≡ [] = sym its_journal ∙ nothing in absurd cc; told = brought.wire.plans };
    }

    spares : (d : ℕ) → d ≢ c → Spares d p.past q.past
    spares d apart =
        spares_step d p.past q.past (Heard e) e.call_no group lawful on.ready.legal.settled.nothing_owed (other_number e.conn d (λ same. apart (sym same ∙ on_it)))

    fits_now : (d : ℕ) → SlotFits heard race.telling race.made q.past d (slot now d) (find d (without c h.out))
    fits_now d = elim (same_or_not d c) [
      | inl same ↦
          subst (λ k. SlotFits heard race.telling race.made q.past k (slot now k) (find k (without c h.out))) (sym same)
          (subst (λ w. SlotFits heard race.telling race.made q.past c w (find c (without c h.out))) (sym (get_or-set_same h.slots c (Some back.wire) None ((is.back.homes c back.work its_out).room other)))
          (subst (λ o. SlotFits heard race.telling race.made q.past c (Some back.wire) o) (sym (find_without c h.out)) at_home))
      | inr apart ↦
          subst (λ w. SlotFits heard race.telling race.made q.past d w (find d (without c h.out))) (sym (slot_elsewhere h.slots c (Some back.wire) d apart))
          (subst (λ o. SlotFits heard race.telling race.made q.past d (slot h.slots d) o) (sym (find_without_other c d h.out (λ same. apart (sym same))))
          (slot_stays heard race.telling race.made p.past q.past d (slot h.slots d) (find d h.out) (spares d apart).journal (on.fits d)))
    ]

    -- The other clients whose work is out keep their leave.
    kept_leave : (d : ℕ) (it : Work) → d ≢ c → IsOut p h.chore d it → (k : ℕ) → (seat p.seats k).permit ≡ Some it.permit → (seat q.seats k).permit ≡ Some it.permit
    kept_leave d it apart out k its = elim (same_or_not k back.client) [
      | inl same ↦
          let both : Some it.permit ≡ Some permit = sym its ∙ (ap (λ j. (seat p.seats j).permit) same ∙ leave) in
          let one : it.permit ≡ permit = cc in
          let client = out.client (λ none. of_a_call (ap (λ (x : Permit). x.call_no) (sym one) ∙ none)) in
          absurd (apart (sym client.conn ∙ ap (λ (x : Permit). x.conn) one))
      | inr not_it ↦ took.handed.permit k not_it ∙ its
    ]

    work_now : (d : ℕ) (it : Work) → find d (without c h.out) ≡ Some it → IsOut q h.chore d it
    work_now d it found =
        let old = found_without c h.out d it found in
        let out = on.work d it old.1 in
        out_stays p q h.chore d it on.ready (spares d old.0) (clients_step p.past q.past (Heard e) e.call_no group) (kept_leave d it old.0 out) out

    -- The hall after the answer was taken in.
    pub heard_on : (left : ℕ) → h.away ≡ left + 1 → IsHall heard race (record h { player = q; slots = now; out = without c h.out; away = left })
    heard_on left less = record {
      keeps = step_keeps race p q (IsAnswerTo (call_of p.past back.client)) step h.settings (λ past. answer_sets step.first step.kind_is.entry past step.kind_is.heard) took.legal took.trimmed took.course.ended is.keeps;
      back = back_home c back.work h.slots now h.out h.away left (slot_set h.slots c (Some back.wire)) its_out less is.back;
      full = not_full h q.past runs;
      well = λ none. record {
        ready = took.ready;
        at = step_rests race.lines p q (IsAnswerTo (call_of p.past back.client)) step lawful;
        fits = fits_now;
        work = work_now;
        fleet =
            let there = on.fleet in
            record {
              work = there.work;
              is_out = find_without_other c house h.out other ∙ there.is_out;
              told = answer_told permit e p.past q.past e.call_no group brought.entry opens shuts race.made ∙ there.told;
            };
      };
    }
