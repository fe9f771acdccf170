-- A call was served by its newest try if it is lent a connection that isn't known to be bad, or has made rows.
use Rattle.std.proofs.Common.{◌≡◌, ◌≢◌, ℕ, ◌==◌, ◌⊎◌, inl, inr, Bool, true, false, ◌&&◌, cond, List, [], ◌∷◌, Some, is_some, refl, sym, ap, subst, ◌∙◌, arith}
use Rattle.dsql_laws_calls.specs.driver.declared.answer.DriverAnswer.{DriverAnswer}
use Rattle.dsql_laws_calls.specs.driver.declared.answer.DriverAnswer.TheVariants as answers
use Rattle.dsql_laws_calls.specs.driver.declared.call.DriverCall.{DriverCall}
use Rattle.dsql_laws_calls.specs.driver.declared.call.DriverCall.TheVariants.{Next, CloseRows, CloseStmt, Valid}
use Rattle.dsql_laws_calls.specs.driver.Kinds.{is_bad}
use Rattle.dsql_laws_calls.specs.course.declared.course.Wish.TheVariants as wishes
use Rattle.dsql_laws_calls.specs.course.Made.{given_cursor, rows_are_over}
use Rattle.dsql_laws_calls.specs.journal.declared.entry.Entry.{Entry}
use Rattle.dsql_laws_calls.specs.journal.declared.entry.Owner.{Owner}
use Rattle.dsql_laws_calls.specs.journal.Kinds.{is_call, number_of}
use Rattle.dsql_laws_calls.specs.journal.Readers.{went_bad}
use Rattle.dsql_laws_calls.specs.pool.declared.conn.Place.TheVariants.{Lent}
use Rattle.dsql_laws_calls.specs.pool.declared.moves.Move.TheVariants.{Lend, Fell}
use Rattle.dsql_laws_calls.specs.works.Exchanges.{exchanges, got_of, step_of}
use Rattle.dsql_laws_calls.specs.works.Line.{handed}
use Rattle.dsql_laws_calls.proofs.laws_work.HandedLines.{SentOver, due_over}
use Rattle.dsql_laws_calls.proofs.laws_work.Rows.{same_or_not}
use Rattle.dsql_laws_calls.specs.history.declared.record.Try.TheVariants.{Served, Refused}
use Rattle.dsql_laws_calls.specs.history.Readers.Tries.{lost, was_served, with_try, is_tried, loses, newest_answer, tries}
use Rattle.dsql_laws_calls.proofs.laws.Places.{neither}
use Rattle.dsql_laws_calls.proofs.laws.Tests.{both, other_number, same_itself, same_number}
use Rattle.dsql_laws_calls.proofs.laws.Wanted.{wanted}
use Rattle.dsql_laws_calls.specs.history.declared.event.Event.{Event}
use Rattle.dsql_laws_calls.specs.history.declared.event.Event.TheVariants.{Heard, Pool}
use Rattle.dsql_laws_calls.specs.history.declared.work.Work.{Work}
use Rattle.dsql_laws_calls.specs.history.declared.work.Task.TheVariants.{HandOut}
use Rattle.dsql_laws_calls.specs.history.declared.work.Work.TheVariants.{Statement}
use Rattle.dsql_laws_calls.specs.history.Readers.Course.{caps}
use Rattle.dsql_laws_calls.specs.history.Readers.HandedOut.{handed_out, rows_by}
use Rattle.dsql_laws_calls.specs.history.Readers.Journals.{heard_in, journal}
use Rattle.dsql_laws_calls.specs.history.Readers.Pool.{place, pool}
use Rattle.dsql_laws_calls.specs.history.Readers.Works.{aim_of, asks, work}
use Rattle.dsql_laws_calls.specs.history.Rules.Line.{is_due, may_come}
use Rattle.dsql_laws_calls.specs.history.Rules.Sent.{asked_by, is_reset_due}
use Rattle.dsql_laws_calls.specs.history.Legal.{Allowed, Lawful}
use Rattle.dsql_laws_calls.proofs.laws.Tried.{lends_to}
use Rattle.dsql_laws_calls.proofs.BeginningsAt.{heard_same, is_answer}
use Rattle.dsql_laws_calls.proofs.CallTenures.{call_line, line_of_call, plain_due}
use Rattle.dsql_laws_calls.proofs.Coming.{sound}
use Rattle.dsql_laws_calls.proofs.Ends.{zero_work}
use Rattle.dsql_laws_calls.proofs.Lent.{lent_before}
use Rattle.dsql_laws_calls.proofs.Looks.{comes, heard_there}
use Rattle.dsql_laws_calls.proofs.Makers.{hands_out, rows_begin_nothing, rows_hand_out}
use Rattle.dsql_laws_calls.proofs.Own.{own_way, OwnWay}
use Rattle.dsql_laws_calls.proofs.Owners.{lent_number}
use Rattle.dsql_laws_calls.proofs.Plain.{begins, line_plain}
use Rattle.dsql_laws_calls.proofs.RowsNew.{content, held, were_made}
use Rattle.dsql_laws_calls.proofs.Stays.{work_stays}
use Rattle.dsql_laws_calls.proofs.UnderWay.{clash}
use Rattle.dsql_laws_calls.proofs.Unspoilt.{none_bad}
use Rattle.dsql_laws_calls.proofs.Untried.{fallen_wanted}
use Rattle.dsql_laws_calls.proofs.Wanted.{lent_wants_none}
use Rattle.dsql_laws_due.proofs.FetchReplies.{handed_from, some_cursor}
use Rattle.dsql_laws_due.proofs.KeptHeard.{new_rows}
use Rattle.dsql_laws_due.proofs.LiveCalls.{own_conn}
use Rattle.dsql_laws_due.proofs.Ways.{owner_begins}

pub never : (b : Bool) → b ≡ true → b ≡ false → ⊥
never b x y = cc

-- A call that was served stays so until an answer loses its try or a refused connection falls to it.

still_served : (H : List Event) (e : Entry) (n : ℕ) → was_served (tries H n) ≡ true → (e.call_no ≡ n → loses (work H n) e ≡ true → ⊥) → was_served (tries (Heard e ∷ H) n) ≡ true
still_served H e n had keeps = by ((e.call_no == n) && loses (work H n) e) refl
  where
    by : (b : Bool) → ((e.call_no == n) && loses (work H n) e) ≡ b → was_served (cond b (lost (tries H n)) (tries H n)) ≡ true
    by true is = let b = both (e.call_no == n) (loses (work H n) e) is in absurd (keeps (same_number e.call_no n b.0) b.1)
    by false is = had

stays_served : (H : List Event) (e : Event) (n : ℕ) → is_answer e ≡ false → was_served (tries H n) ≡ true → ((c m : ℕ) → e ≡ Pool (Fell c m) → m ≡ n → ⊥) → was_served (tries (e ∷ H) n) ≡ true
stays_served H (Heard e) n quiet had falls = absurd cc
stays_served H (Pool (Lend d u o m)) n quiet had falls = by (m == n)
  where
    by : (b : Bool) → was_served (with_try b Served (tries H n)) ≡ true
    by true = refl
    by false = had
stays_served H (Pool (Fell d m)) n quiet had falls = by (m == n) refl
  where
    by : (b : Bool) → (m == n) ≡ b → was_served (with_try b (Refused (newest_answer H)) (tries H n)) ≡ true
    by true is = absurd (falls d m refl (same_number m n is))
    by false is = had
stays_served H e n quiet had falls = had

-- A refused connection falls to a call that wants one.
falls_elsewhere : (H : List Event) (c m n : ℕ) → Allowed H (Pool (Fell c m)) → n ≢ 0 → wanted n (pool H) ≡ 0 → m ≡ n → ⊥
falls_elsewhere H c m n a some none same =
    let one = fallen_wanted H c m a (λ zero. some (sym same ∙ zero)) in
    let its : wanted m (pool H) ≡ 0 = ap (λ k. wanted k (pool H)) same ∙ none in
    absurd (omega (arith, one, its))

-- A call that is lent a connection.

pub lent_served : (H : List Event) (c t : ℕ) (own : Owner) → Lawful H → place H c ≡ Some (Lent t own) → went_bad (journal H c) ≡ false → was_served (tries H (number_of own)) ≡ true
lent_served [] c t own l is good = absurd cc
lent_served (e ∷ H) c t own l is good = by (lent_served H c t own l.0) (lent_before H e c t own l.0 is)
  where
    answered : (x : Entry) → Lawful (Heard x ∷ H) → place H c ≡ Some (Lent t own) → went_bad (journal (Heard x ∷ H) c) ≡ false → (went_bad (journal H c) ≡ false → was_served (tries H (number_of own)) ≡ true) → (x.conn ≡ c) ⊎ (x.conn ≢ c)
        → was_served (tries (Heard x ∷ H) (number_of own)) ≡ true
    answered x lx before well rest (inl here) =
        let parts = neither (is_bad x.answer) (went_bad (journal H c)) (sym (ap (λ b. went_bad (cond b (x ∷ journal H c) (journal H c))) (ap (λ d. d == c) here ∙ same_itself c)) ∙ well) in
        still_served H x (number_of own) (rest parts.1) (λ same lost_now. lost_none parts.0 lost_now)
      where
        lost_none : is_bad x.answer ≡ false → loses (work H (number_of own)) x ≡ true → ⊥
        lost_none fine lost_now = let b = both (is_tried (work H (number_of own)) x.call) (is_bad x.answer) lost_now in never (is_bad x.answer) b.1 fine
    answered x lx before well rest (inr apart) =
        still_served H x (number_of own) (rest (sym (ap (λ b. went_bad (cond b (x ∷ journal H c) (journal H c))) (other_number x.conn c apart)) ∙ well))
        (λ same lost_now. apart (own_conn H x c t own lx before (sym same)))

    event : (y : Event) → e ≡ y → place H c ≡ Some (Lent t own) → (went_bad (journal H c) ≡ false → was_served (tries H (number_of own)) ≡ true) → was_served (tries (e ∷ H) (number_of own)) ≡ true
    event (Heard x) its before rest =
        ap (λ y. was_served (tries (y ∷ H) (number_of own))) its
        ∙ answered x (subst (λ y. Lawful (y ∷ H)) its l) before (subst (λ y. went_bad (journal (y ∷ H) c) ≡ false) its good) rest (same_or_not x.conn c)
    event y its before rest =
        stays_served H e (number_of own) (ap is_answer its) (rest (sym (ap went_bad (heard_same H e c (ap is_answer its))) ∙ good))
        (λ d m falls same. falls_elsewhere H d m (number_of own) (subst (λ x. Allowed H x) falls l.1) (lent_number H c t own l.0 before) (lent_wants_none H c t own l.0 before) same)

    by : (place H c ≡ Some (Lent t own) → went_bad (journal H c) ≡ false → was_served (tries H (number_of own)) ≡ true) → (place H c ≡ Some (Lent t own)) ⊎ ((k : ℕ) × (e ≡ Pool (Lend c t own k))) → was_served (tries (e ∷ H) (number_of own)) ≡ true
    by rest (inl before) = event e refl before (rest before)
    by rest (inr w) =
        let same : w.0 ≡ number_of own = lends_to H c t own w.0 (subst (λ x. Allowed H x) w.1 l.1) in
        ap (λ y. was_served (tries (y ∷ H) (number_of own))) w.1
        ∙ ap (λ b. was_served (with_try b Served (tries H (number_of own)))) (ap (λ j. j == number_of own) same ∙ same_itself (number_of own))

-- A call that has made rows.

-- No driver call over rows is one whose bad answer loses a try.
over_untried : (it : Work) (q : DriverCall) (b : Bool) → hands_out it ≡ true → SentOver q wishes.Nothing b → is_tried it q ≡ false
over_untried (Statement s (HandOut label)) (Next rows) b h sent = refl
over_untried (Statement s (HandOut label)) (CloseRows rows) b h sent = refl
over_untried (Statement s (HandOut label)) (CloseStmt handle) b h sent = refl
over_untried (Statement s (HandOut label)) Valid b h sent = refl
over_untried (Statement s (HandOut label)) q b h sent = absurd sent
over_untried it q b h sent = absurd cc

-- An answer that gives a cursor isn't bad.
given_good : (a : DriverAnswer) → is_some (given_cursor (got_of a)) ≡ true → is_bad a ≡ false
given_good answers.Bad h = absurd cc
given_good a h = refl

module _ (H : List Event) (e : Entry) (l : Lawful (Heard e ∷ H)) (numbered : (e.call_no == 0) ≡ false) (asking : asks (work H e.call_no) ≡ true) (made : is_some (rows_by (Heard e ∷ H) e.call_no) ≡ true) where
  may : may_come H e ≡ true
  may = let there = heard_there H e l.1 in comes H e (place H e.conn) there.sets there.line numbered

  own : OwnWay H e
  own = own_way H e l.0 may numbered asking

  -- The call has its connection for itself.
  for_itself : is_call own.owner ≡ true
  for_itself = by (is_call own.owner) refl
    where
      by : (b : Bool) → is_call own.owner ≡ b → b ≡ true
      by true is = refl
      by false is = clash (sym (owner_begins H e.conn e.tenure own.owner l.0 own.lent is) ∙ (ap (λ j. begins (work H j)) own.own ∙ rows_begin_nothing (Heard e ∷ H) e.call_no made))

  served_there : was_served (tries H e.call_no) ≡ true
  served_there = subst (λ j. was_served (tries H j) ≡ true) own.own (lent_served H e.conn e.tenure own.owner l.0 own.lent (none_bad H e own.owner l.0 may own.lent for_itself))

  unlost : is_some (rows_by H e.call_no) ≡ true → loses (work H e.call_no) e ≡ true → ⊥
  unlost were lost_now =
      let rows : is_some (rows_by H (number_of own.owner)) ≡ true = ap (λ j. is_some (rows_by H j)) own.own ∙ were in
      let L = heard_in H e.conn e.tenure in
      let r = some_cursor (handed (aim_of (work H (number_of own.owner))) (exchanges L)) (handed_from (work H (number_of own.owner)) (exchanges L) (rows_hand_out H (number_of own.owner) rows) (held H e.conn e.tenure own.owner l.0 own.lent rows)) in
      let due : is_due (call_line H e.conn e.tenure own.owner wishes.Nothing) e.call ≡ true = ap (λ d. is_due d e.call) (sym (line_of_call H e.conn e.tenure own.owner wishes.Nothing l.0 own.lent for_itself)) ∙ own.due in
      let sent = plain_due (call_line H e.conn e.tenure own.owner wishes.Nothing) e.call (line_plain (caps H) (is_reset_due H e.conn) (asked_by H (number_of own.owner)) wishes.Nothing L) due in
      let s = sound H l.0 in
      let f = s.facts in
      let over = due_over (caps H) (is_reset_due H e.conn) (asked_by H (number_of own.owner)) wishes.Nothing L e.call r.0 r.1 (f.made e.conn e.tenure own.owner own.lent for_itself) sent in
      let b = both (is_tried (work H e.call_no) e.call) (is_bad e.answer) lost_now in
      never (is_tried (work H e.call_no) e.call) b.0 (over_untried (work H e.call_no) e.call (rows_are_over (exchanges L)) (rows_hand_out H e.call_no were) over)

heard_served : (H : List Event) (e : Entry) (n : ℕ) → Lawful (Heard e ∷ H) → (n == 0) ≡ false → asks (work H n) ≡ true → is_some (rows_by (Heard e ∷ H) n) ≡ true → (is_some (rows_by H n) ≡ true → was_served (tries H n) ≡ true)
    → was_served (tries (Heard e ∷ H) n) ≡ true
heard_served H e n l numbered asking made rest = by (new_rows H (work H e.call_no) e.call_no e.call e.answer n (handed_out H) made)
  where
    own_lost : is_some (rows_by H n) ≡ true → e.call_no ≡ n → loses (work H n) e ≡ true → ⊥
    own_lost were its lost_now =
        unlost H e l (ap (λ k. k == 0) its ∙ numbered) (ap (λ k. asks (work H k)) its ∙ asking) (ap (λ k. is_some (rows_by (Heard e ∷ H) k)) its ∙ made) (ap (λ k. is_some (rows_by H k)) its ∙ were)
        (ap (λ k. loses (work H k) e) its ∙ lost_now)

    by : (is_some (rows_by H n) ≡ true) ⊎ ((n ≡ e.call_no) × (is_some (given_cursor (got_of e.answer)) ≡ true) × (is_some (step_of e.call) ≡ true)) → was_served (tries (Heard e ∷ H) n) ≡ true
    by (inl were) = still_served H e n (rest were) (own_lost were)
    by (inr g) =
        let its : e.call_no ≡ n = sym g.0 in
        let there = served_there H e l (ap (λ k. k == 0) its ∙ numbered) (ap (λ k. asks (work H k)) its ∙ asking) (ap (λ k. is_some (rows_by (Heard e ∷ H) k)) its ∙ made) in
        still_served H e n (ap (λ k. was_served (tries H k)) g.0 ∙ there)
        (λ same lost_now. good (both (is_tried (work H n) e.call) (is_bad e.answer) lost_now).1)
      where
        good : is_bad e.answer ≡ true → ⊥
        good bad = never (is_bad e.answer) bad (given_good e.answer g.1)

pub rows_served : (H : List Event) (n : ℕ) → Lawful H → asks (work H n) ≡ true → is_some (rows_by H n) ≡ true → was_served (tries H n) ≡ true
rows_served [] n l asking made = absurd cc
rows_served (e ∷ H) n l asking made = event e refl (rows_served H n l.0)
  where
    numbered : (n == 0) ≡ false
    numbered = other_number n 0 (λ none. clash (sym asking ∙ (ap (λ k. asks (work (e ∷ H) k)) none ∙ ap asks (zero_work (e ∷ H)))))

    -- If the call's rows were made before the event, the call had the same work.
    busy : is_some (rows_by H n) ≡ true → work (e ∷ H) n ≡ work H n
    busy were = work_stays H e n (λ looks. clash (sym (rows_hand_out H n were) ∙ ap hands_out looks))

    event : (y : Event) → e ≡ y → (asks (work H n) ≡ true → is_some (rows_by H n) ≡ true → was_served (tries H n) ≡ true) → was_served (tries (e ∷ H) n) ≡ true
    event (Heard x) its rest =
        let same : asks (work H n) ≡ true = subst (λ y. asks (work (y ∷ H) n) ≡ true) its asking in
        ap (λ y. was_served (tries (y ∷ H) n)) its ∙ heard_served H x n (subst (λ y. Lawful (y ∷ H)) its l) numbered same (subst (λ y. is_some (rows_by (y ∷ H) n) ≡ true) its made) (rest same)
    event y its rest =
        let were = were_made H e n (ap is_answer its) made in
        let some : n ≢ 0 = λ none. never (n == 0) (ap (λ k. k == 0) none) numbered in
        stays_served H e n (ap is_answer its) (rest (sym (ap asks (busy were)) ∙ asking) were)
        (λ d m falls same. falls_elsewhere H d m n (subst (λ x. Allowed H x) falls l.1) some (content H n l.0 some were) same)
