-- While the rows of a query on the database are live, they aren't over in its tenure, which isn't at its end.
use Rattle.std.proofs.Common.{◌≡◌, ◌≢◌, ℕ, ◌==◌, ◌⊎◌, inl, inr, Bool, true, false, not, ◌&&◌, ◌||◌, cond, List, [], ◌∷◌, Option, Some, None, is_some, nat_lt, length, refl, sym, ap, subst, ◌∙◌}
use Rattle.std.specs.List.{filter, list_all}
use Rattle.dsql_laws_calls.specs.driver.declared.answer.DriverAnswer.{DriverAnswer}
use Rattle.dsql_laws_calls.specs.driver.declared.answer.DriverAnswer.TheVariants as answers
use Rattle.dsql_laws_calls.specs.driver.declared.call.DriverCall.{DriverCall}
use Rattle.dsql_laws_calls.specs.driver.declared.call.DriverCall.TheVariants as calls
use Rattle.dsql_laws_calls.specs.driver.declared.call.Input.TheVariants.{Text, Handle}
use Rattle.dsql_laws_calls.specs.driver.declared.caps.Caps.{Caps}
use Rattle.dsql_laws_calls.specs.driver.Fits.{fits_of}
use Rattle.dsql_laws_calls.specs.driver.Kinds.{is_bad, is_next, is_reset, is_valid}
use Rattle.dsql_laws_calls.specs.course.declared.call.Due.TheVariants as due
use Rattle.dsql_laws_calls.specs.course.declared.course.Course.TheVariants as courses
use Rattle.dsql_laws_calls.specs.course.declared.course.Wish.{Wish}
use Rattle.dsql_laws_calls.specs.course.declared.course.Wish.TheVariants as wishes
use Rattle.dsql_laws_calls.specs.course.Made.{Exchange, ends_rows, given_cursor, own_cursor, rows_are_over}
use Rattle.dsql_laws_calls.specs.course.Rows.{closing_of}
use Rattle.dsql_laws_calls.specs.journal.declared.entry.Entry.{Entry}
use Rattle.dsql_laws_calls.specs.journal.declared.entry.Owner.{Owner}
use Rattle.dsql_laws_calls.specs.journal.declared.entry.Owner.TheVariants.{Call}
use Rattle.dsql_laws_calls.specs.journal.Facts.{KeepsBody, KeepsCallBody, MayFollow}
use Rattle.dsql_laws_calls.specs.journal.Journal.{may_follow}
use Rattle.dsql_laws_calls.specs.journal.Kinds.{is_call, number_of}
use Rattle.dsql_laws_calls.specs.journal.Readers.{of_tenure}
use Rattle.dsql_laws_calls.specs.journal.Tenure.{is_body, place as place_of}
use Rattle.dsql_laws_calls.proofs.journal.Sentences.{MayFollow-of}
use Rattle.dsql_laws_calls.specs.pool.declared.conn.Place.TheVariants.{Lent}
use Rattle.dsql_laws_calls.specs.pool.declared.moves.Move.TheVariants.{Lend}
use Rattle.dsql_laws_calls.specs.works.declared.work.Aim.{Aim}
use Rattle.dsql_laws_calls.specs.works.declared.work.Aim.TheVariants as aims
use Rattle.dsql_laws_calls.specs.works.Exchanges.{exchanges, got_of, step_of, with_exchange}
use Rattle.dsql_laws_calls.specs.works.Line.{Asked, body_after, handed, line_after, sent_over}
use Rattle.dsql_laws_calls.proofs.laws_work.Lines.{sends_no_more}
use Rattle.dsql_laws_calls.proofs.laws_work.Rows.{same_or_not}
use Rattle.dsql_laws_calls.proofs.laws.Tests.{both, other_number, same_number}
use Rattle.dsql_laws_calls.specs.history.declared.event.Event.{Event}
use Rattle.dsql_laws_calls.specs.history.declared.event.Event.TheVariants.{Heard, Pool}
use Rattle.dsql_laws_calls.specs.history.declared.work.Scope.{Scope}
use Rattle.dsql_laws_calls.specs.history.declared.work.Scope.TheVariants.{Db, Held as In}
use Rattle.dsql_laws_calls.specs.history.declared.work.Work.{Work}
use Rattle.dsql_laws_calls.specs.history.declared.work.Task.TheVariants.{HandOut}
use Rattle.dsql_laws_calls.specs.history.declared.work.Work.TheVariants.{Statement, Fetch}
use Rattle.dsql_laws_calls.specs.history.Readers.Course.{caps}
use Rattle.dsql_laws_calls.specs.history.Readers.HandedOut.{are_live, are_over, handed_out, rows_by}
use Rattle.dsql_laws_calls.specs.history.Readers.Journals.{heard_in, journal}
use Rattle.dsql_laws_calls.specs.history.Readers.Pool.{home, place}
use Rattle.dsql_laws_calls.specs.history.Readers.Works.{aim_of, asks, scope, work}
use Rattle.dsql_laws_calls.specs.history.Rules.Line.{is_due, may_come, sends_from}
use Rattle.dsql_laws_calls.specs.history.Rules.Sent.{asked_by, is_reset_due}
use Rattle.dsql_laws_calls.specs.history.Legal.{Allowed, Lawful}
use Rattle.dsql_laws_calls.proofs.BeginningsAt.{heard_more, heard_other, heard_same, heard_tenure, is_answer}
use Rattle.dsql_laws_calls.proofs.CallTenures.{call_line, line_of_call}
use Rattle.dsql_laws_calls.proofs.Coming.{sound}
use Rattle.dsql_laws_calls.proofs.Ends.{zero_work}
use Rattle.dsql_laws_calls.proofs.Inside.{inside, inside_uses}
use Rattle.dsql_laws_calls.proofs.Lent.{lent_before}
use Rattle.dsql_laws_calls.proofs.LineParts.{fits_heard, heard_follows}
use Rattle.dsql_laws_calls.proofs.Lines.{line_there}
use Rattle.dsql_laws_calls.proofs.LiveRows.{live_some}
use Rattle.dsql_laws_calls.proofs.Looks.{comes, heard_there}
use Rattle.dsql_laws_calls.proofs.Makers.{hands_out, rows_hand_out}
use Rattle.dsql_laws_calls.proofs.Own.{own_way, OwnWay}
use Rattle.dsql_laws_calls.proofs.RowsNew.{content, held}
use Rattle.dsql_laws_calls.proofs.Owners.{at_home, lent_asks, lent_number, same_owner_is}
use Rattle.dsql_laws_calls.proofs.Wanted.{lent_nothing, rows_may_not_ask}
use Rattle.dsql_laws_calls.proofs.laws.Tried.{lends_to}
use Rattle.dsql_laws_due.proofs.CallWays.{call_unbegun, call_way, CallWay}
use Rattle.dsql_laws_due.proofs.KeptHeard.{new_rows}
use Rattle.dsql_laws_due.proofs.LiveLines.{live_before, live_not_over, next_live, quiet_rows}
use Rattle.dsql_laws_due.proofs.OpenLines.{open_plain, over_rows}
use Rattle.dsql_laws_due.proofs.Owned.{heard_owner}

-- Holds if the rows aren't over there, and the tenure isn't at its end.
pub record IsGoing (L : List Entry) : Type 0 where
  pub open_rows : rows_are_over (exchanges L) ≡ false
  pub unended : sends_no_more L ≡ false

-- In such a tenure, what is due is what `over_rows` gives.
pub going_line : (can : Caps) (reset : Bool) (asked : Asked) (w : Wish) (L : List Entry) (r : ℕ) → handed asked.aim (exchanges L) ≡ Some r → IsGoing L
    → line_after can reset asked w L ≡ over_rows w r (sent_over can asked (Some (closing_of courses.Query false can (length asked.params) (exchanges L))))
going_line can reset asked w [] r own going = absurd (nothing asked.aim own)
  where
    nothing : (x : Aim) → handed x [] ≡ Some r → ⊥
    nothing aims.HandOut h = cc
    nothing _ h = cc
going_line can reset asked w (e ∷ L) r own going = ap (λ b. cond b None (body_after can false asked w (exchanges (e ∷ L)))) going.unended ∙ open_plain can asked w (exchanges (e ∷ L)) r own going.open_rows

-- Before a run no rows are over.

low_step : (p : ℕ) (q : DriverCall) (a : DriverAnswer) (made : List Exchange) → (p ≡ 1) ⊎ (p ≡ 3) → (nat_lt (place_of q) p || is_next q && false) ≡ true → rows_are_over made ≡ false → rows_are_over (with_exchange (step_of q) a made) ≡ false
low_step p (calls.Next rows) a made (inl is) h on = absurd (let k : (nat_lt 4 1 || true && false) ≡ true = ap (λ n. nat_lt 4 n || true && false) (sym is) ∙ h in cc)
low_step p (calls.Next rows) a made (inr is) h on = absurd (let k : (nat_lt 4 3 || true && false) ≡ true = ap (λ n. nat_lt 4 n || true && false) (sym is) ∙ h in cc)
low_step p (calls.CloseRows rows) a made (inl is) h on = absurd (let k : (nat_lt 5 1 || false && false) ≡ true = ap (λ n. nat_lt 5 n || false && false) (sym is) ∙ h in cc)
low_step p (calls.CloseRows rows) a made (inr is) h on = absurd (let k : (nat_lt 5 3 || false && false) ≡ true = ap (λ n. nat_lt 5 n || false && false) (sym is) ∙ h in cc)
low_step p (calls.Exec (Text text) params) a made which h on = on
low_step p (calls.Exec (Handle handle) params) a made which h on = on
low_step p (calls.Query (Text text) params) a made which h on = on
low_step p (calls.Query (Handle handle) params) a made which h on = on
low_step p q a made which h on = on

outside_step : (q : DriverCall) (a : DriverAnswer) (made : List Exchange) → not (is_reset q || is_valid q) ≡ false → rows_are_over made ≡ false → rows_are_over (with_exchange (step_of q) a made) ≡ false
outside_step calls.Reset a made h on = on
outside_step calls.Valid a made h on = on
outside_step q a made h on = absurd cc

low_lines : (p : ℕ) (L : List Entry) → (p ≡ 1) ⊎ (p ≡ 3) → list_all (λ x. nat_lt (place_of x.call) p || is_next x.call && false) (filter is_body L) ≡ true → rows_are_over (exchanges L) ≡ false
low_lines p [] which h = refl
low_lines p (x ∷ L) which h = by (low_lines p L which) (is_body x) refl h
  where
    by : (list_all (λ y. nat_lt (place_of y.call) p || is_next y.call && false) (filter is_body L) ≡ true → rows_are_over (exchanges L) ≡ false) → (b : Bool) → is_body x ≡ b
        → list_all (λ y. nat_lt (place_of y.call) p || is_next y.call && false) (cond b (x ∷ filter is_body L) (filter is_body L)) ≡ true → rows_are_over (with_exchange (step_of x.call) x.answer (exchanges L)) ≡ false
    by rest true is k =
        let b = both (nat_lt (place_of x.call) p || is_next x.call && false) (list_all (λ y. nat_lt (place_of y.call) p || is_next y.call && false) (filter is_body L)) k in
        low_step p x.call x.answer (exchanges L) which b.0 (rest b.1)
    by rest false is k = outside_step x.call x.answer (exchanges L) is (rest k)

low_as : (u v : ℕ) (b c : Bool) (K M : List Entry) → v ≡ u → c ≡ b → M ≡ K → list_all (λ x. nat_lt (place_of x.call) u || is_next x.call && b) (filter is_body K) ≡ true
    → list_all (λ x. nat_lt (place_of x.call) v || is_next x.call && c) (filter is_body M) ≡ true
low_as u v b c K M p q r h = rw (p, q, r) h

-- A run that gave a cursor.

record IsRunThere (q : DriverCall) (a : DriverAnswer) : Type 0 where
  p : ℕ
  which : (p ≡ 1) ⊎ (p ≡ 3)
  at : place_of q ≡ p
  next : is_next q ≡ false
  body : not (is_reset q || is_valid q) ≡ true
  keeps : (made : List Exchange) → rows_are_over made ≡ false → rows_are_over (with_exchange (step_of q) a made) ≡ false
  unended : (is_bad a || is_valid q) ≡ false

run_there : (q : DriverCall) (a : DriverAnswer) → fits_of q a ≡ true → is_some (given_cursor (got_of a)) ≡ true → IsRunThere q a
run_there q (answers.Cursor rows columns) f g = by q f
  where
    by : (c : DriverCall) → fits_of c (answers.Cursor rows columns) ≡ true → IsRunThere c (answers.Cursor rows columns)
    by (calls.Query (Text text) params) h = record { p = 1; which = inl refl; at = refl; next = refl; body = refl; keeps = λ made on. on; unended = refl }
    by (calls.Query (Handle handle) params) h = record { p = 3; which = inr refl; at = refl; next = refl; body = refl; keeps = λ made on. on; unended = refl }
    by (calls.Exec (Text text) params) h = absurd cc
    by (calls.Exec (Handle handle) params) h = absurd cc
    by c h = absurd cc
run_there q a f g = absurd cc

run_going : (J : List Entry) (e : Entry) (n : ℕ) → may_follow J e ≡ true → e.owner ≡ Call n → IsRunThere e.call e.answer → IsGoing (e ∷ of_tenure e.tenure J)
run_going J e n may owner r = record { open_rows = r.keeps (exchanges (of_tenure e.tenure J)) (low_lines r.p (of_tenure e.tenure J) r.which (low (MayFollow-of J e may))); unended = r.unended }
  where
    body : MayFollow J e → KeepsCallBody J e
    body m = let k = m.tenure in subst (λ o. KeepsBody o J e) owner (k.in_body r.body)

    low : MayFollow J e → list_all (λ x. nat_lt (place_of x.call) r.p || is_next x.call && false) (filter is_body (of_tenure e.tenure J)) ≡ true
    low m = let k = body m in low_as (place_of e.call) r.p (is_next e.call) false (of_tenure e.tenure J) (of_tenure e.tenure J) (sym r.at) (sym r.next) refl k.order

-- A Next that gives a row keeps this.
row_going : (e : Entry) (L : List Entry) (x : ℕ) → e.call ≡ calls.Next x → ends_rows (due.Next x, got_of e.answer) ≡ false → IsGoing L → IsGoing (e ∷ L)
row_going e L x call row going = record {
  open_rows = ap (λ q. rows_are_over (with_exchange (step_of q) e.answer (exchanges L))) call ∙ (ap (λ b. b || rows_are_over (exchanges L)) row ∙ going.open_rows);
  unended = ap (λ q. is_bad e.answer || is_valid q) call ∙ (ap (λ b. b || false) (not_bad e.answer row));
}
  where
    not_bad : (a : DriverAnswer) → ends_rows (due.Next x, got_of a) ≡ false → is_bad a ≡ false
    not_bad answers.Bad h = absurd cc
    not_bad a h = refl

-- An answer to the call that is lent a connection is heard on that connection.
pub own_conn : (H : List Event) (x : Entry) (c t : ℕ) (own : Owner) → Lawful (Heard x ∷ H) → place H c ≡ Some (Lent t own) → number_of own ≡ x.call_no → x.conn ≡ c
own_conn H x c t own l before number =
    let some : (x.call_no == 0) ≡ false = other_number x.call_no 0 (λ none. lent_number H c t own l.0 before (number ∙ none)) in
    let there = heard_there H x l.1 in
    let asking : asks (work H x.call_no) ≡ true = ap (λ j. asks (work H j)) (sym number) ∙ lent_asks H c t own l.0 before in
    let u = own_way H x l.0 (comes H x (place H x.conn) there.sets there.line some) some asking in
    sym (at_home H x.conn x.tenure u.owner l.0 u.lent) ∙ (ap (home H) (u.own ∙ sym number) ∙ at_home H c t own l.0 before)

-- What is heard there.

module _ (H : List Event) (e : Entry) (l : Lawful (Heard e ∷ H)) (own : Owner) (lent : place H e.conn ≡ Some (Lent e.tenure own)) (call : is_call own ≡ true) (after : are_live (Heard e ∷ H) (number_of own) ≡ true) where
  may : may_come H e ≡ true
  may = let there = heard_there H e l.1 in subst (λ at. sends_from H at e ≡ true) lent there.line

  same_lent : (o p : Owner) → Some (Lent e.tenure o) ≡ Some (Lent e.tenure p) → o ≡ p
  same_lent o p h = cc

  cursor_of : is_some (rows_by H (number_of own)) ≡ true → (r : ℕ) × (handed (aim_of (work H (number_of own))) (exchanges (heard_in H e.conn e.tenure)) ≡ Some r)
  cursor_of some = by (work H (number_of own)) (rows_hand_out H (number_of own) some) (own_cursor (exchanges (heard_in H e.conn e.tenure))) refl (held H e.conn e.tenure own l.0 lent some)
    where
      by : (w : Work) → hands_out w ≡ true → (o : Option ℕ) → own_cursor (exchanges (heard_in H e.conn e.tenure)) ≡ o → is_some o ≡ true → (r : ℕ) × (handed (aim_of w) (exchanges (heard_in H e.conn e.tenure)) ≡ Some r)
      by (Statement s (HandOut label)) x (Some r) its y = (r, its)
      by (Statement s (HandOut label)) x None its y = absurd cc
      by w x o its y = absurd cc

  -- What is due there, given what is wanted of the rows.
  due_there : (w : Wish) → is_some (rows_by H (number_of own)) ≡ true → IsGoing (heard_in H e.conn e.tenure) → is_due (call_line H e.conn e.tenure own w) e.call ≡ true
      → (r : ℕ) × (is_due (over_rows w r (sent_over (caps H) (asked_by H (number_of own)) (Some (closing_of courses.Query false (caps H) (length (asked_by H (number_of own)).params) (exchanges (heard_in H e.conn e.tenure)))))) e.call ≡ true)
  due_there w some going due_here =
      let r = cursor_of some in
      (r.0, ap (λ d. is_due d e.call) (sym (going_line (caps H) (is_reset_due H e.conn) (asked_by H (number_of own)) w (heard_in H e.conn e.tenure) r.0 r.1 going)) ∙ due_here)

  own_none : {A : Type 0} → is_some (rows_by H (number_of own)) ≡ true → IsGoing (heard_in H e.conn e.tenure) → OwnWay H e → A
  own_none some going u =
      let same = same_lent u.owner own (sym u.lent ∙ lent) in
      let due_own : is_due (line_there H e.conn e.tenure own (number_of own) wishes.Nothing) e.call ≡ true = subst (λ o. is_due (line_there H e.conn e.tenure o (number_of o) wishes.Nothing) e.call ≡ true) same u.due in
      let d = due_there wishes.Nothing some going (ap (λ x. is_due x e.call) (sym (line_of_call H e.conn e.tenure own wishes.Nothing l.0 lent call)) ∙ due_own) in
      let none = d.1 in
      absurd cc

  inner_none : {A : Type 0} (k : ℕ) → (e.call_no == 0) ≡ false → scope (work H e.call_no) ≡ In k → A
  inner_none k some inner =
      let s = sound H l.0 in
      let u = s.coming e may in
      let same = same_lent u.owner own (sym u.lent ∙ lent) in
      let number : k ≡ number_of own = sym (inside_uses H e.call_no k inner) ∙ (u.borrowed (λ none. never (e.call_no == 0) (ap (λ j. j == 0) none) some) ∙ ap number_of same) in
      let i = inside H l.0 in
      call_unbegun H e.conn e.tenure own l.0 lent call (i.coming e (number_of own) may (inner ∙ ap In number))
    where
      never : (b : Bool) → b ≡ true → b ≡ false → ⊥
      never b x y = cc

  other_going : is_some (rows_by H (number_of own)) ≡ true → IsGoing (heard_in H e.conn e.tenure) → CallWay H e.conn e.tenure own e.call_no e.call → IsGoing (e ∷ heard_in H e.conn e.tenure)
  other_going some going w = by w.kind
    where
      lives : are_live H (number_of own) ≡ true
      lives = live_before H (Heard e) (number_of own) some after

      next : (q : DriverCall) (r : ℕ) → e.call ≡ q → is_due (Some (calls.Next r)) q ≡ true → work H e.call_no ≡ Fetch (number_of own) → IsGoing (e ∷ heard_in H e.conn e.tenure)
      next (calls.Next x) r its d fetch = row_going e (heard_in H e.conn e.tenure) x its (next_live H e (number_of own) x x l.1 fetch its lives after) going
      next q r its d fetch = absurd cc

      by : ((w.wish ≡ wishes.Close) × (are_over H (number_of own) ≡ true)) ⊎ ((w.wish ≡ wishes.Fetch) × (work H e.call_no ≡ Fetch (number_of own))) → IsGoing (e ∷ heard_in H e.conn e.tenure)
      by (inl gone) = live_not_over (rows_by H (number_of own)) lives gone.1
      by (inr f) = let d = due_there wishes.Fetch some going (subst (λ v. is_due (call_line H e.conn e.tenure own v) e.call ≡ true) f.0 w.due) in next e.call d.0 refl d.1 f.1

  live_going_on : is_some (rows_by H (number_of own)) ≡ true → IsGoing (heard_in H e.conn e.tenure) → IsGoing (e ∷ heard_in H e.conn e.tenure)
  live_going_on some going = by (e.call_no == 0) refl
    where
      another : asks (work H e.call_no) ≡ false → scope (work H e.call_no) ≡ Db → IsGoing (e ∷ heard_in H e.conn e.tenure)
      another a s = other_going some going (call_way H e own l.0 may lent call (record { asks_none = a; outside = s }))

      scoped : (sc : Scope) → scope (work H e.call_no) ≡ sc → (e.call_no == 0) ≡ false → asks (work H e.call_no) ≡ false → IsGoing (e ∷ heard_in H e.conn e.tenure)
      scoped Db its numbered a = another a its
      scoped (In k) its numbered a = inner_none k numbered its

      asking : (b : Bool) → asks (work H e.call_no) ≡ b → (e.call_no == 0) ≡ false → IsGoing (e ∷ heard_in H e.conn e.tenure)
      asking true a numbered = own_none some going (own_way H e l.0 may numbered a)
      asking false a numbered = scoped (scope (work H e.call_no)) refl numbered a

      by : (b : Bool) → (e.call_no == 0) ≡ b → IsGoing (e ∷ heard_in H e.conn e.tenure)
      by true layer = let nobody = ap (work H) (same_number e.call_no 0 layer) ∙ zero_work H in another (ap asks nobody) (ap scope nobody)
      by false numbered = asking (asks (work H e.call_no)) refl numbered

call_of : (o : Owner) → is_call o ≡ true → o ≡ Call (number_of o)
call_of (Call n) h = refl
call_of o h = absurd cc

answered_going : (H : List Event) (e : Entry) → Lawful (Heard e ∷ H) → (own : Owner) → place H e.conn ≡ Some (Lent e.tenure own) → is_call own ≡ true → (are_live H (number_of own) ≡ true → IsGoing (heard_in H e.conn e.tenure))
    → are_live (Heard e ∷ H) (number_of own) ≡ true → IsGoing (heard_in (Heard e ∷ H) e.conn e.tenure)
answered_going H e l own lent call rest after =
    subst IsGoing (sym (heard_more H e e.conn e.tenure own l.1 lent refl))
    (by (new_rows H (work H e.call_no) e.call_no e.call e.answer (number_of own) (handed_out H) (live_some (rows_by (Heard e ∷ H) (number_of own)) after)))
  where
    owner : e.owner ≡ Call (number_of own)
    owner = same_owner_is e.owner own (heard_owner H e e.tenure own l.1 lent) ∙ call_of own call

    by : (is_some (rows_by H (number_of own)) ≡ true) ⊎ ((number_of own ≡ e.call_no) × (is_some (given_cursor (got_of e.answer)) ≡ true) × (is_some (step_of e.call) ≡ true)) → IsGoing (e ∷ heard_in H e.conn e.tenure)
    by (inl were) = live_going_on H e l own lent call after were (rest (live_before H (Heard e) (number_of own) were after))
    by (inr g) = run_going (journal H e.conn) e (number_of own) (heard_follows H e l.1) owner (run_there e.call e.answer (fits_heard H e l.1) g.1)

pub live_going : (H : List Event) (c t : ℕ) (own : Owner) → Lawful H → place H c ≡ Some (Lent t own) → is_call own ≡ true → are_live H (number_of own) ≡ true → IsGoing (heard_in H c t)
live_going [] c t own l is call lives = absurd cc
live_going (e ∷ H) c t own l is call lives = by (λ before. live_going H c t own l.0 before call) (lent_before H e c t own l.0 is)
  where
    beside : journal (e ∷ H) c ≡ journal H c → is_some (rows_by H (number_of own)) ≡ true → (are_live H (number_of own) ≡ true → IsGoing (heard_in H c t)) → IsGoing (heard_in (e ∷ H) c t)
    beside same some rest = subst (λ J. IsGoing (of_tenure t J)) (sym same) (rest (live_before H e (number_of own) some lives))

    -- An answer on another connection makes no rows of this call.
    else_rows : (x : Entry) → Lawful (Heard x ∷ H) → place H c ≡ Some (Lent t own) → x.conn ≢ c → is_some (rows_by (Heard x ∷ H) (number_of own)) ≡ true → is_some (rows_by H (number_of own)) ≡ true
    else_rows x lx before apart some = by_new (new_rows H (work H x.call_no) x.call_no x.call x.answer (number_of own) (handed_out H) some)
      where
        by_new : (is_some (rows_by H (number_of own)) ≡ true) ⊎ ((number_of own ≡ x.call_no) × (is_some (given_cursor (got_of x.answer)) ≡ true) × (is_some (step_of x.call) ≡ true)) → is_some (rows_by H (number_of own)) ≡ true
        by_new (inl were) = were
        by_new (inr g) = absurd (apart (own_conn H x c t own lx before g.0))

    answered : (x : Entry) → e ≡ Heard x → place H c ≡ Some (Lent t own) → (are_live H (number_of own) ≡ true → IsGoing (heard_in H c t)) → (x.conn ≡ c) ⊎ (x.conn ≢ c) → IsGoing (heard_in (e ∷ H) c t)
    answered x its before rest (inl here) =
        let lx : Lawful (Heard x ∷ H) = subst (λ y. Lawful (y ∷ H)) its l in
        let tenure = heard_tenure H x t own lx.1 (ap (place H) here ∙ before) in
        let lent : place H x.conn ≡ Some (Lent x.tenure own) = ap (place H) here ∙ (before ∙ ap (λ u. Some (Lent u own)) (sym tenure)) in
        let rest_here : are_live H (number_of own) ≡ true → IsGoing (heard_in H x.conn x.tenure) =
        λ on. subst (λ d. IsGoing (heard_in H d x.tenure)) (sym here) (subst (λ u. IsGoing (heard_in H c u)) (sym tenure) (rest on))
        in
        let now = answered_going H x lx own lent call rest_here (subst (λ y. are_live (y ∷ H) (number_of own) ≡ true) its lives) in
        subst (λ y. IsGoing (heard_in (y ∷ H) c t)) (sym its) (subst (λ d. IsGoing (heard_in (Heard x ∷ H) d t)) here (subst (λ u. IsGoing (heard_in (Heard x ∷ H) x.conn u)) tenure now))
    answered x its before rest (inr apart) =
        let lx : Lawful (Heard x ∷ H) = subst (λ y. Lawful (y ∷ H)) its l in
        beside (ap (λ y. journal (y ∷ H) c) its ∙ heard_other H x c apart)
        (else_rows x lx before apart (live_some (rows_by (Heard x ∷ H) (number_of own)) (subst (λ y. are_live (y ∷ H) (number_of own) ≡ true) its lives))) rest

    event : (y : Event) → e ≡ y → place H c ≡ Some (Lent t own) → (are_live H (number_of own) ≡ true → IsGoing (heard_in H c t)) → IsGoing (heard_in (e ∷ H) c t)
    event (Heard x) its before rest = answered x its before rest (same_or_not x.conn c)
    event y its before rest = beside (heard_same H e c (ap is_answer its)) (quiet_rows H e (number_of own) (ap is_answer its) lives) rest

    -- A call that has made rows is lent no other connection.
    lends_none : (k : ℕ) → e ≡ Pool (Lend c t own k) → ⊥
    lends_none k its =
        let a : Allowed H (Pool (Lend c t own k)) = subst (λ x. Allowed H x) its l.1 in
        let same : k ≡ number_of own = lends_to H c t own k a in
        let some = quiet_rows H e (number_of own) (ap is_answer its) lives in
        let were : is_some (rows_by H k) ≡ true = ap (λ j. is_some (rows_by H j)) same ∙ some in
        let numbered : k ≢ 0 = λ none. lent_number (e ∷ H) c t own l is (sym same ∙ none) in
        lent_nothing H c t own k l.0 a (rows_may_not_ask H k were) (content H k l.0 numbered were)

    by : (place H c ≡ Some (Lent t own) → are_live H (number_of own) ≡ true → IsGoing (heard_in H c t)) → (place H c ≡ Some (Lent t own)) ⊎ ((k : ℕ) × (e ≡ Pool (Lend c t own k))) → IsGoing (heard_in (e ∷ H) c t)
    by rest (inl before) = event e refl before (rest before)
    by rest (inr w) = absurd (lends_none w.0 w.1)
