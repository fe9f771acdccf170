-- What is under way on a connection that is lent to a call on the database is due in that call's line. For the
-- call's rows it is only a fetch that wants them, or the close after they are over.
use Rattle.std.proofs.Common.{◌≡◌, ◌≢◌, ℕ, ◌==◌, inl, inr, Bool, true, false, not, ◌&&◌, cond, List, [], ◌∷◌, Some, None, is_some, is_none, refl, sym, ap, subst, ◌∙◌}
use Rattle.std.proofs.lemmas.Bool.{or_cases}
use Rattle.dsql_laws_calls.specs.course.declared.course.Wish.{Wish}
use Rattle.dsql_laws_calls.specs.course.declared.course.Wish.TheVariants as wishes
use Rattle.dsql_laws_calls.specs.journal.declared.entry.Entry.{Entry}
use Rattle.dsql_laws_calls.specs.journal.declared.entry.Owner.{Owner}
use Rattle.dsql_laws_calls.specs.journal.Kinds.{is_call, number_of}
use Rattle.dsql_laws_calls.specs.pool.declared.conn.Place.TheVariants.{Lent}
use Rattle.dsql_laws_calls.specs.history.Rules.Wishes.{wish_as}
use Rattle.dsql_laws_calls.proofs.laws.Tests.{both, same_itself, same_number}
use Rattle.dsql_laws_calls.specs.history.declared.event.Event.{Event}
use Rattle.dsql_laws_calls.specs.history.declared.work.Scope.TheVariants.{Db, Held}
use Rattle.dsql_laws_calls.specs.history.declared.work.Work.{Work}
use Rattle.dsql_laws_calls.specs.history.declared.work.Task.TheVariants.{HandOut}
use Rattle.dsql_laws_calls.specs.history.declared.work.Work.TheVariants.{Statement, Begin, End, Ping, Fetch, Close, Look}
use Rattle.dsql_laws_calls.specs.history.Readers.Calls.{decided}
use Rattle.dsql_laws_calls.specs.history.Readers.HandedOut.{rows_by, are_live, are_over, ender}
use Rattle.dsql_laws_calls.specs.history.Readers.Pool.{place}
use Rattle.dsql_laws_calls.specs.history.Readers.Transactions.{is_begun, tx_ender}
use Rattle.dsql_laws_calls.specs.history.Readers.Works.{work, scope, is_fetch, asks, hands_out_in, borrower}
use Rattle.dsql_laws_calls.specs.history.Rules.Ending.{ending}
use Rattle.dsql_laws_calls.specs.history.Rules.Line.{is_due, due_in, due_for, tidying, due_from, is_due_at, is_used, parts, may_come}
use Rattle.dsql_laws_calls.specs.history.Rules.Sent.{line_of, closes, wish, sent_for, close_due}
use Rattle.dsql_laws_calls.specs.history.Legal.{Lawful}
use Rattle.dsql_laws_calls.proofs.Begun.{begun_begins, over_begun}
use Rattle.dsql_laws_calls.proofs.Beginnings.{begin_owner}
use Rattle.dsql_laws_calls.proofs.CallTenures.{call_line, line_of_call}
use Rattle.dsql_laws_calls.proofs.Coming.{sound}
use Rattle.dsql_laws_calls.proofs.DueWay.{borrow_same}
use Rattle.dsql_laws_calls.proofs.EndedRows.{rows_kept, ender_over}
use Rattle.dsql_laws_calls.proofs.HandedRows.{rows_begun}
use Rattle.dsql_laws_calls.proofs.Inside.{inside, inside_uses}
use Rattle.dsql_laws_calls.proofs.Lent.{stays_lent}
use Rattle.dsql_laws_calls.proofs.Lines.{line_here, line_stays, unheard}
use Rattle.dsql_laws_calls.proofs.Makers.{hands_out, rows_hand_out, sent_made}
use Rattle.dsql_laws_calls.proofs.Own.{DueNow, asks_own, due_line, due_now, due_of, some_due}
use Rattle.dsql_laws_calls.proofs.Owners.{lent_asks}
use Rattle.dsql_laws_calls.proofs.Stays.{not_looking}
use Rattle.dsql_laws_calls.proofs.UnderWay.{clash, ending_over}
use Rattle.dsql_laws_calls.proofs.Why.{why_used}
use Rattle.dsql_laws_calls.proofs.Works.{is_look, work_stays}

-- What is wanted in the line of the call to which the connection is lent.
pub record OwnSent (H : List Event) (e : Entry) (own : Owner) : Type 0 where
  pub wanted : Wish
  pub due : is_due (call_line H e.conn e.tenure own wanted) e.call ≡ true
  pub fetches : wanted ≡ wishes.Fetch → work H e.call_no ≡ Fetch (number_of own)
  pub closes : wanted ≡ wishes.Close → are_over H (number_of own) ≡ true

-- An entry on a connection that is lent to a call.
record OnCall (H : List Event) (e : Entry) (own : Owner) : Type 0 where
  lawful : Lawful H
  lent : place H e.conn ≡ Some (Lent e.tenure own)
  call : is_call own ≡ true

unbegun : {A : Type 0} → (H : List Event) (e : Entry) (own : Owner) (k : ℕ) → OnCall H e own → k ≡ number_of own → is_begun H k ≡ true → A
unbegun H e own k o same begun = clash (sym o.call ∙ begin_owner H e.conn e.tenure own o.lawful o.lent (begun_begins H (number_of own) o.lawful (ap (is_begun H) (sym same) ∙ begun)))

itself : (H : List Event) (e : Entry) (own : Owner) → OnCall H e own → borrower H (number_of own) ≡ number_of own
itself H e own o = asks_own H (number_of own) (lent_asks H e.conn e.tenure own o.lawful o.lent)

-- What is due in the line of the call.
in_line : (H : List Event) (e : Entry) (own : Owner) (m : ℕ) (w : Wish) → OnCall H e own → m ≡ number_of own → is_due (line_of H m w) e.call ≡ true → is_due (call_line H e.conn e.tenure own w) e.call ≡ true
in_line H e own m w o same due =
    ap (λ d. is_due d e.call) (sym (ap (λ k. line_of H k w) same ∙ (line_here H e.conn e.tenure own (number_of own) w o.lawful o.lent (itself H e own o) ∙ line_of_call H e.conn e.tenure own w o.lawful o.lent o.call))) ∙ due

over_own : (H : List Event) (e : Entry) (own : Owner) (m j : ℕ) → OnCall H e own → m ≢ 0 → j ≡ number_of own → (is_fetch (work H m) ≡ true → work H m ≡ Fetch j) → is_due (sent_for H j (wish H m j)) e.call ≡ true → e.call_no ≡ m → OwnSent H e own
over_own H e own m j o some same fetching due its = by (closes H m j) (is_fetch (work H m) && (are_live H j && is_none (decided H m))) refl refl due
  where
    by : (a b : Bool) → closes H m j ≡ a → (is_fetch (work H m) && (are_live H j && is_none (decided H m))) ≡ b → is_due (sent_for H j (wish_as a b)) e.call ≡ true → OwnSent H e own
    by true b ended fetches x =
        let w = both (ender H j == m) _ ended in
        record {
          wanted = wishes.Close;
          due = in_line H e own j wishes.Close o same x;
          fetches = λ y. absurd cc;
          closes = λ y. ap (are_over H) (sym same) ∙ ender_over H j (λ none. some (sym (same_number (ender H j) m w.0) ∙ none));
        }
    by false true ended fetches x =
        let f = both (is_fetch (work H m)) (are_live H j && is_none (decided H m)) fetches in
        record {
          wanted = wishes.Fetch;
          due = in_line H e own j wishes.Fetch o same x;
          fetches = λ y. ap (work H) its ∙ (fetching f.0 ∙ ap Fetch same);
          closes = λ y. absurd cc;
        }
    by false false ended fetches x = absurd cc

sent_now : (H : List Event) (e : Entry) (own : Owner) → OnCall H e own → may_come H e ≡ true → is_due_at H (place H e.conn) e ≡ true → OwnSent H e own
sent_now H e own o may now = whose (e.call_no == 0) refl (subst (λ x. is_due (due_from H e.call_no (number_of x)) e.call ≡ true) (lent_same d.owner (sym d.lent ∙ o.lent)) d.due)
  where
    d : DueNow H e
    d = due_now H e now

    lent_same : (x : Owner) → Some (Lent e.tenure x) ≡ Some (Lent e.tenure own) → x ≡ own
    lent_same x same = cc

    n : ℕ
    n = number_of own

    closed : (a b : Bool) → are_over H n ≡ b → is_due (cond a (cond b (line_of H n wishes.Close) None) None) e.call ≡ true → OwnSent H e own
    closed true true over x = record { wanted = wishes.Close; due = in_line H e own n wishes.Close o refl x; fetches = λ y. absurd cc; closes = λ y. over }
    closed true false over x = absurd cc
    closed false b over x = absurd cc

    layer : (b : Bool) → is_begun H n ≡ b → is_due (cond b (cond (tx_ender H n == 0) (ending H n) None) (cond (ender H n == 0) (close_due H n) None)) e.call ≡ true → OwnSent H e own
    layer true begun x = unbegun H e own n o refl begun
    layer false begun x = closed (ender H n == 0) (are_over H n) refl x

    uses : e.call_no ≢ 0 → borrower H e.call_no ≡ n
    uses some = let s = sound H o.lawful in let u = s.coming e may in u.borrowed some ∙ ap number_of (way_same u.owner (sym u.lent ∙ o.lent))
      where
        way_same : (x : Owner) → Some (Lent e.tenure x) ≡ Some (Lent e.tenure own) → x ≡ own
        way_same x same = cc

    -- The rows belong to that call.
    rows_of_it : (j : ℕ) → is_some (rows_by H j) ≡ true → borrower H j ≡ n → j ≡ n
    rows_of_it j made at = by (work H j) refl (rows_hand_out H j made)
      where
        by : (w : Work) → work H j ≡ w → hands_out w ≡ true → j ≡ n
        by (Statement Db (HandOut label)) is x = let own_one : borrower H j ≡ j = rw is refl in sym own_one ∙ at
        by (Statement (Held k) (HandOut label)) is x =
            let in_it : borrower H j ≡ k = rw is refl in
            unbegun H e own k o (sym in_it ∙ at) (rows_begun H j k o.lawful made (ap (hands_out_in k) is ∙ same_itself k))
        by w is x = absurd cc

    inner_one : (k : ℕ) → scope (work H e.call_no) ≡ Held k → e.call_no ≢ 0 → OwnSent H e own
    inner_one k inner some = let i = inside H o.lawful in unbegun H e own k o (sym (inside_uses H e.call_no k inner) ∙ uses some) (i.coming e k may inner)

    own_one : (v : Work) → work H e.call_no ≡ v → e.call_no ≢ 0 → asks v ≡ true → is_due (due_in H e.call_no v) e.call ≡ true → OwnSent H e own
    own_one v is some asking y =
        let its : e.call_no ≡ n = sym (asks_own H e.call_no (ap asks is ∙ asking)) ∙ uses some in
        record {
          wanted = wishes.Nothing;
          due = in_line H e own e.call_no wishes.Nothing o its (ap (λ q. is_due q e.call) (sym (due_line H e.call_no v asking)) ∙ y);
          fetches = λ z. absurd cc;
          closes = λ z. absurd cc;
        }

    works : (w : Work) → work H e.call_no ≡ w → e.call_no ≢ 0 → (e.call_no == 0) ≡ false → is_due (due_in H e.call_no w) e.call ≡ true → OwnSent H e own
    works (Fetch j) is some zero x =
        let made = sent_made H e.call_no j zero (some_due (sent_for H j (wish H e.call_no j)) e.call x) in
        let its = rows_of_it j made (sym (borrow_same H e.call_no j (inl is) (rows_hand_out H j made)) ∙ uses some) in
        over_own H e own e.call_no j o some its (λ y. is) x refl
    works (Close j) is some zero x =
        let made = sent_made H e.call_no j zero (some_due (sent_for H j (wish H e.call_no j)) e.call x) in
        let its = rows_of_it j made (sym (borrow_same H e.call_no j (inr is) (rows_hand_out H j made)) ∙ uses some) in
        over_own H e own e.call_no j o some its (λ y. clash (sym y ∙ ap is_fetch is)) x refl
    works (End k) is some zero x = ends (tx_ender H k == e.call_no) x
      where
        ends : (b : Bool) → is_due (cond b (ending H k) None) e.call ≡ true → OwnSent H e own
        ends true y = let at : borrower H e.call_no ≡ k = rw is refl in unbegun H e own k o (sym at ∙ uses some) (over_begun H k (ending_over H k (some_due (ending H k) e.call y)))
        ends false y = absurd cc
    works Look is some zero x = absurd cc
    works (Statement Db task) is some zero x = own_one (Statement Db task) is some refl x
    works (Begin label level read_only) is some zero x = own_one (Begin label level read_only) is some refl x
    works Ping is some zero x = own_one Ping is some refl x
    works (Statement (Held k) task) is some zero x = inner_one k (ap scope is) some

    whose : (b : Bool) → (e.call_no == 0) ≡ b → is_due (cond b (tidying H n) (due_for H e.call_no)) e.call ≡ true → OwnSent H e own
    whose true zero x = layer (is_begun H n) refl x
    whose false other x =
        let k = due_of H e.call_no e.call x in
        works (work H e.call_no) refl (λ none. never (e.call_no == 0) (ap (λ i. i == 0) none) other) other k.due
      where
        never : (b : Bool) → b ≡ true → b ≡ false → ⊥
        never b p q = cc

not_so : (b : Bool) → not b ≡ true → b ≡ false
not_so true h = absurd cc
not_so false h = refl

-- It stays so until something is heard there.
still_sent : (H : List Event) (last : Event) (e : Entry) (own : Owner) → Lawful (last ∷ H) → parts last e ≡ false → may_come H e ≡ true → place H e.conn ≡ Some (Lent e.tenure own) → is_call own ≡ true → is_used H (number_of own) ≡ true → OwnSent H e own
    → OwnSent (last ∷ H) e own
still_sent H last e own l on may is call used x = record {
  wanted = x.wanted;
  due = ap (λ q. is_due q e.call) (sym (line_of_call K e.conn e.tenure own x.wanted l (stays_lent H last e.conn e.tenure own l.0 l.1 is used) call)
      ∙ (line_stays H last e.conn e.tenure own (number_of own) x.wanted l.0 l.1 is used (unheard H last e on) (not_looking (work H (number_of own)) (lent_asks H e.conn e.tenure own l.0 is)) ∙ line_of_call H e.conn e.tenure own x.wanted l.0 is call)) ∙ x.due;
  fetches = λ y. same (x.fetches y) ∙ x.fetches y;
  closes = λ y. let kept = rows_kept H last (number_of own) in kept.ended (x.closes y);
}
  where
    K : List Event
    K = last ∷ H

    same : work H e.call_no ≡ Fetch (number_of own) → work K e.call_no ≡ work H e.call_no
    same is_fetching = work_stays H last e.call_no (ap is_look is_fetching)

pub own_sent : (H : List Event) (e : Entry) (own : Owner) → Lawful H → may_come H e ≡ true → place H e.conn ≡ Some (Lent e.tenure own) → is_call own ≡ true → OwnSent H e own
own_sent [] e own l may is call = absurd cc
own_sent (last ∷ H) e own l may is call =
    elim (or_cases (is_due_at (last ∷ H) (place (last ∷ H) e.conn) e) (not (parts last e) && may_come H e) may) [
      | inl now ↦ sent_now (last ∷ H) e own (record { lawful = l; lent = is; call = call }) may now
      | inr before ↦ (let b = both (not (parts last e)) (may_come H e) before in came b.0 b.1 (λ at. own_sent H e own l.0 b.1 at call))
    ]
  where
    came : not (parts last e) ≡ true → may_come H e ≡ true → (place H e.conn ≡ Some (Lent e.tenure own) → OwnSent H e own) → OwnSent (last ∷ H) e own
    came apart could earlier =
        let s = sound H l.0 in
        let u = s.coming e could in
        let used = why_used H e.conn e.tenure u.owner e.call_no l.0 u.lent u.why in
        let its = lent_same u.owner (sym (stays_lent H last e.conn e.tenure u.owner l.0 l.1 u.lent used) ∙ is) in
        let at : place H e.conn ≡ Some (Lent e.tenure own) = u.lent ∙ ap (λ o. Some (Lent e.tenure o)) its in
        still_sent H last e own l (not_so (parts last e) apart) could at call (ap (λ o. is_used H (number_of o)) (sym its) ∙ used) (earlier at)
      where
        lent_same : (x : Owner) → Some (Lent e.tenure x) ≡ Some (Lent e.tenure own) → x ≡ own
        lent_same x same = cc
