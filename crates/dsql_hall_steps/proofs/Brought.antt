-- The house brings back the answer to a Connect or a Shut. The argument is that a connection that was shut has no wire,
-- and one that was opened has the wire that came.
use Rattle.std.proofs.Common.{◌≡◌, ◌≢◌, ◌≤◌, ◌+◌, ◌-◌, ℕ, Bool, true, false, List, [], ◌∷◌, length, Option, Some, None, is_some, refl, ap, sym, subst, ◌∙◌, arith}
use Rattle.std.specs.Prelude.{MatchBool}
use Rattle.dsql_engine_laws.specs.driver.Fits.{is_done}
use Rattle.dsql_engine_laws.specs.driver.Kinds.{is_connect, is_shut}
use Rattle.dsql_engine_laws.specs.driver.Wires.{WireTold}
use Rattle.dsql_engine_laws.specs.journal.declared.entry.Entry.{Entry}
use Rattle.dsql_engine_laws.specs.journal.HandlesAndCursors.{fits_at_its_place}
use Rattle.dsql_engine_laws.specs.history.declared.event.Event.{Event}
use Rattle.dsql_engine_laws.specs.history.Readers.Journals.{journal}
use Rattle.dsql_engine_laws.specs.laws_steps.Groups.{most_events}
use Rattle.dsql_engine_laws.specs.wire.Journaled.{Journaled}
use Rattle.dsql_wire.proofs.Answered.{makes}
use Rattle.dsql_player_wires.specs.Made.{Made, aside_on}
use Rattle.dsql_player_wires.specs.WiresFit.{FitsAt, HoldsWire, OpensWire, RecordsAside, slot}
use Rattle.dsql_player_wires.proofs.Journals.{opened_wired, shut_unwired}
use Rattle.dsql_player.specs.declared.halt.Halt.{Halt}
use Rattle.dsql_player.specs.declared.halt.Halt.TheVariants as halts
use Rattle.dsql_player.specs.Playing.{Playing}
use Rattle.dsql_player.proofs.Answering.{entry_conn}
use Rattle.dsql_hall_bonds.specs.Work.{Work, find, without}
use Rattle.dsql_hall_steps.specs.Errands.{Brought, IsBack}
use Rattle.dsql_hall_steps.specs.Halls.{InHall, IsAtHome, IsHall, Keeps, MayComeBack, house}
use Rattle.dsql_hall_steps.specs.House.{IsShutting, own_work}
use Rattle.dsql_hall_steps.specs.Openings.{Found, IsFound}
use Rattle.dsql_hall_steps.specs.Terms.{Terms}
use Rattle.dsql_hall_steps.proofs.Carrying.{ChangesSlot, back_home, stopped_hall}
use Rattle.dsql_hall_steps.proofs.ChoreAnswered.{IsAnswered, TookChore, away, its_journal, took_on}
use Rattle.dsql_hall_steps.proofs.Returned.{it_counts}

-- A connection that was shut has no wire.
gone_home : {W : Type 0} (heard : W → Option WireTold) (telling : Bool) (made : List Made) (past : List Event) (c : ℕ) (e : Entry) (before : List Entry) (wire : Option (Journaled W)) → journal past c ≡ e ∷ before
    → is_shut e.call ≡ true → wire ≡ None → IsAtHome heard telling made past c wire
gone_home heard telling made past c e before wire its shuts gone = record {
  fits =
      subst (λ j. FitsAt heard telling c j wire) (sym its)
      (subst (λ b. MatchBool b (HoldsWire heard telling c (e ∷ before) wire) (wire ≡ None)) (sym (shut_unwired e before shuts)) gone);
  plans = record {
    unheard = λ nothing. let clash : e ∷ before ≡ [] = sym its ∙ nothing in absurd cc;
    told = subst (RecordsAside heard (aside_on made c)) (sym gone) tt;
  };
}

-- A connection that was opened has the wire that came, and if it was refused it has none.
opened_home : {W : Type 0} (heard : W → Option WireTold) (telling : Bool) (made : List Made) (past : List Event) (c : ℕ) (e : Entry) (wire : Option (Journaled W)) → journal past c ≡ e ∷ [] → e.conn ≡ c
    → is_connect e.call ≡ true → OpensWire heard telling e wire → RecordsAside heard (aside_on made c) wire → IsAtHome heard telling made past c wire
opened_home heard telling made past c e wire its on_it connects opens planned = record {
  fits =
      subst (λ j. FitsAt heard telling c j wire) (sym its)
      (subst (λ b. MatchBool b (HoldsWire heard telling c (e ∷ []) wire) (wire ≡ None)) (sym (opened_wired e connects))
      (subst (λ d. MatchBool (is_done e.answer) (HoldsWire heard telling d (e ∷ []) wire) (wire ≡ None)) on_it opens));
  plans = record { unheard = λ nothing. let clash : e ∷ [] ≡ [] = sym its ∙ nothing in absurd cc; told = planned };
}

-- What the work and the entry of each are.

pub shut_answered : {W : Type 0} (heard : W → Option WireTold) (telling : Bool) (made : List Made) (out : List Work) (back : Brought W) → IsBack heard telling made back → IsShutting back.work
    → find back.work.conn out ≡ Some back.work → IsAnswered out back.work back.entry
shut_answered heard telling made out back is shuts found = record {
  was_out = found;
  conn = is.work.conn;
  number = shuts.number;
  layer = shuts.layer;
  entry = is.entry;
  fits = is.fits;
}

pub opening_answered : {W : Type 0} (heard : W → Option WireTold) (telling : Bool) (made : List Made) (out : List Work) (it : Found W) → IsFound heard telling made it
    → find it.work.conn out ≡ Some it.work → IsAnswered out it.work it.entry
opening_answered heard telling made out it is found = record {
  was_out = found;
  conn = is.opening.conn;
  number = is.opening.number;
  layer = is.opening.layer;
  entry = is.answers.entry;
  fits = subst (λ j. fits_at_its_place j it.entry ≡ true) (sym is.opening.unheard) is.answers.fits;
}

module _ {W : Type 0} (heard : W → Option WireTold) (race : Terms) (h : InHall W) (is : IsHall heard race h) (runs : h.stopped ≡ None) (q : Playing) (own : Work) (left : ℕ) (less : h.away ≡ left + 1) where
  -- The hall after the answer to a Shut was taken in. The wire isn't put back.
  pub shut_took : (back : Brought W) → IsBack heard race.telling race.made back → IsShutting back.work → (found : find back.work.conn h.out ≡ Some back.work) → TookChore back.entry h.player q
      → find house (without back.work.conn h.out) ≡ Some own
      → IsHall heard race (record h { player = q; out = own_work q.past ∷ without house (without back.work.conn h.out); away = left; chore = None })
  shut_took back its shuts found took own_out =
      let answered = shut_answered heard race.telling race.made h.out back its shuts found in
      let work = back.work in
      let call : back.entry.call ≡ work.permit.call = (makes work.permit back.entry.answer back.entry its.entry).call in
      let gone : slot h.slots work.conn ≡ None = (away heard race h work back.entry is runs answered).gone in
      let home : IsAtHome heard race.telling race.made q.past work.conn (slot h.slots work.conn) =
      gone_home heard race.telling race.made q.past work.conn back.entry (journal h.player.past work.conn) (slot h.slots work.conn) (its_journal heard race h work back.entry is runs answered q took)
      (ap is_shut call ∙ shuts.shuts) gone in
      took_on heard race h work back.entry is runs answered q took own own_out h.slots (record { others = λ d apart. refl; many = omega arith }) home left less

  -- The hall after the answer to a Connect was taken in. The wire that came is in its slot.
  pub opening_took : (it : Found W) → IsFound heard race.telling race.made it → (found : find it.work.conn h.out ≡ Some it.work) → TookChore it.entry h.player q
      → find house (without it.work.conn h.out) ≡ Some own → (now : List (Option (Journaled W))) → ChangesSlot it.work.conn h.slots now → slot now it.work.conn ≡ it.wire
      → IsHall heard race (record h { player = q; slots = now; out = own_work q.past ∷ without house (without it.work.conn h.out); away = left; chore = None })
  opening_took it its found took own_out now changes put =
      let answered = opening_answered heard race.telling race.made h.out it its found in
      let work = it.work in
      let call : it.entry.call ≡ work.permit.call = (makes work.permit it.entry.answer it.entry its.answers.entry).call in
      let on_it : it.entry.conn ≡ work.conn = entry_conn work.permit it.entry its.answers.entry ∙ sym its.opening.conn in
      let silent : journal h.player.past work.conn ≡ [] =
      (away heard race h work it.entry is runs answered).unheard ∙ (ap (journal work.past) its.opening.conn ∙ its.opening.unheard) in
      let heard_one : journal q.past work.conn ≡ it.entry ∷ [] = its_journal heard race h work it.entry is runs answered q took ∙ ap (λ j. it.entry ∷ j) silent in
      let planned : RecordsAside heard (aside_on race.made work.conn) it.wire =
      subst (λ aside. RecordsAside heard aside it.wire) (sym (ap (aside_on race.made) its.opening.conn ∙ its.opening.unplanned)) its.unplanned in
      let home : IsAtHome heard race.telling race.made q.past work.conn it.wire =
      opened_home heard race.telling race.made q.past work.conn it.entry it.wire heard_one on_it (ap is_connect call ∙ its.opening.connects) its.wire planned in
      took_on heard race h work it.entry is runs answered q took own own_out now changes (subst (IsAtHome heard race.telling race.made q.past work.conn) (sym put) home) left less

-- The same of the hall's fields as its code leaves them.

module _ {W : Type 0} (heard : W → Option WireTold) (race : Terms) (h : InHall W) (is : IsHall heard race h) (runs : h.stopped ≡ None) (q : Playing) (own : Work) where
  left_of : (work : Work) → find work.conn h.out ≡ Some work → h.away ≡ (h.away - 1) + 1
  left_of work found = let counts = it_counts heard race h work work.conn is refl found in omega (arith, counts)

  pub shut_heard : (back : Brought W) (mid out : List Work) → IsBack heard race.telling race.made back → IsShutting back.work → find back.work.conn h.out ≡ Some back.work
      → mid ≡ without back.work.conn h.out → find house mid ≡ Some own → out ≡ own_work q.past ∷ without house mid → TookChore back.entry h.player q
      → IsHall heard race (record h { player = q; out = out; away = h.away - 1; chore = None })
  shut_heard back mid out brought shuts found struck own_out tied took =
      subst (λ o. IsHall heard race (record h { player = q; out = o; away = h.away - 1; chore = None })) (sym (tied ∙ ap (λ o. own_work q.past ∷ without house o) struck))
      (shut_took heard race h is runs q own (h.away - 1) (left_of back.work found) back brought shuts found took (ap (find house) (sym struck) ∙ own_out))

  pub opening_heard : (it : Found W) (conn : ℕ) (mid out : List Work) (now : List (Option (Journaled W))) → IsFound heard race.telling race.made it → find it.work.conn h.out ≡ Some it.work
      → it.work.conn ≡ conn → mid ≡ without it.work.conn h.out → find house mid ≡ Some own → out ≡ own_work q.past ∷ without house mid → TookChore it.entry h.player q
      → slot now conn ≡ it.wire → ((d : ℕ) → d ≢ conn → slot now d ≡ slot h.slots d) → length now ≡ length h.slots
      → IsHall heard race (record h { player = q; slots = now; out = out; away = h.away - 1; chore = None })
  opening_heard it conn mid out now found_it found its struck own_out tied took put others many =
      subst (λ o. IsHall heard race (record h { player = q; slots = now; out = o; away = h.away - 1; chore = None })) (sym (tied ∙ ap (λ o. own_work q.past ∷ without house o) struck))
      (opening_took heard race h is runs q own (h.away - 1) (left_of it.work found) it found_it found took (ap (find house) (sym struck) ∙ own_out) now
      (record { others = λ d apart. others d (λ same. apart (same ∙ sym its)); many = omega (arith, many) }) (ap (slot now) its ∙ put))

-- The run has stopped, and what came is put home all the same.

module _ {W : Type 0} (heard : W → Option WireTold) (race : Terms) (h : InHall W) (work : Work) (conn : ℕ) (is : IsHall heard race h) (its : work.conn ≡ conn) (found : find work.conn h.out ≡ Some work)
    (now : List (Option (Journaled W))) (out : List Work) (others : (d : ℕ) → d ≢ conn → slot now d ≡ slot h.slots d) (many : length now ≡ length h.slots) (struck : out ≡ without work.conn h.out) where
  comes_back : MayComeBack now out (h.away - 1)
  comes_back =
      let counts = it_counts heard race h work work.conn is refl found in
      subst (λ o. MayComeBack now o (h.away - 1)) (sym struck)
      (back_home work.conn work h.slots now h.out h.away (h.away - 1) (record { others = λ d apart. others d (λ same. apart (same ∙ sym its)); many = omega (arith, many) }) found (omega (arith, counts)) is.back)

  pub put_stopped : is_some h.stopped ≡ true → IsHall heard race (record h { slots = now; out = out; away = h.away - 1 })
  put_stopped stopped = record {
    keeps = is.keeps;
    back = comes_back;
    full = is.full;
    well = λ none. let clash : false ≡ true = sym (ap is_some none) ∙ stopped in absurd cc;
  }

  pub put_stops : (q : Playing) (halt : Halt) → q ≡ h.player → (halt ≡ halts.Full → most_events ≤ length q.past)
      → IsHall heard race (record h { player = q; slots = now; out = out; away = h.away - 1; stopped = Some halt })
  put_stops q halt same full =
      stopped_hall heard race (record h { player = q; slots = now; out = out; away = h.away - 1; stopped = Some halt }) halt refl
      (subst (λ p. Keeps race p h.settings) (sym same) is.keeps) comes_back full

-- The work is of the connection of the entry.
pub found_conn_of : {W : Type 0} (heard : W → Option WireTold) (telling : Bool) (made : List Made) (it : Found W) (e : Entry) → IsFound heard telling made it → e ≡ it.entry → it.work.conn ≡ e.conn
found_conn_of heard telling made it e found is =
    found.opening.conn ∙ (sym (entry_conn it.work.permit it.entry found.answers.entry) ∙ sym (ap (λ (x : Entry). x.conn) is))
