-- At most one `Commit` or `Rollback` is sent for a transaction. After one was heard, the entries of the
-- transaction's tenure show it, and nothing of the kind is due there.
use Rattle.std.proofs.Common.{◌≡◌, ◌≢◌, ℕ, ◌+◌, ◌≤◌, ◌==◌, ◌⊎◌, inl, inr, Bool, true, false, not, ◌&&◌, ◌||◌, cond, List, [], ◌∷◌, Option, Some, None, refl, sym, ap, subst, ◌∙◌, arith}
use Rattle.dsql_laws_calls.specs.driver.Kinds.{is_connect, is_ending, is_shut}
use Rattle.dsql_laws_calls.specs.driver.declared.call.DriverCall.{DriverCall}
use Rattle.dsql_laws_calls.specs.driver.declared.call.DriverCall.TheVariants as calls
use Rattle.dsql_laws_calls.specs.course.declared.course.Wish.TheVariants as wishes
use Rattle.dsql_laws_calls.specs.journal.declared.entry.Entry.{Entry}
use Rattle.dsql_laws_calls.specs.journal.declared.entry.Owner.{Owner}
use Rattle.dsql_laws_calls.specs.journal.Kinds.{is_call, number_of, same_owner}
use Rattle.dsql_laws_calls.specs.journal.Readers.{of_tenure}
use Rattle.dsql_laws_calls.specs.pool.Pooled.{next_tenure}
use Rattle.dsql_laws_calls.specs.pool.declared.conn.Place.{Place}
use Rattle.dsql_laws_calls.specs.pool.declared.conn.Place.TheVariants.{Closing, Idle, Lent, Opening}
use Rattle.dsql_laws_calls.proofs.laws_work.Rows.{same_or_not}
use Rattle.dsql_laws_calls.specs.history.Rules.Moves.{hears_in, is_house_entry}
use Rattle.dsql_laws_calls.proofs.laws.Tests.{both, same_number}
use Rattle.dsql_laws_calls.specs.history.declared.event.Event.{Event}
use Rattle.dsql_laws_calls.specs.history.declared.event.Event.TheVariants.{Heard}
use Rattle.dsql_laws_calls.specs.history.declared.work.Scope.{Scope}
use Rattle.dsql_laws_calls.specs.history.declared.work.Scope.TheVariants.{Db, Held}
use Rattle.dsql_laws_calls.specs.history.Readers.Course.{caps}
use Rattle.dsql_laws_calls.specs.history.Readers.Journals.{heard_in}
use Rattle.dsql_laws_calls.specs.history.Readers.Lines.{line_in}
use Rattle.dsql_laws_calls.specs.history.Readers.Pool.{place, pool}
use Rattle.dsql_laws_calls.specs.history.Readers.Transactions.{is_begun}
use Rattle.dsql_laws_calls.specs.history.Readers.Works.{asks, scope, work}
use Rattle.dsql_laws_calls.specs.history.Rules.Line.{is_due, may_come, sends_from}
use Rattle.dsql_laws_calls.specs.history.Rules.Sent.{asked_by, is_reset_due, sender}
use Rattle.dsql_laws_calls.specs.history.Legal.{Allowed, Lawful}
use Rattle.dsql_laws_calls.proofs.Beginnings.{lent_once_begun}
use Rattle.dsql_laws_calls.proofs.BeginningsAt.{beginnings, heard_more, heard_other, heard_same, is_answer}
use Rattle.dsql_laws_calls.proofs.Begun.{stays_begun}
use Rattle.dsql_laws_calls.proofs.CallTenures.{call_line}
use Rattle.dsql_laws_calls.proofs.Coming.{sound}
use Rattle.dsql_laws_calls.proofs.Ends.{zero_work}
use Rattle.dsql_laws_calls.proofs.Inside.{inside_uses, number_not}
use Rattle.dsql_laws_calls.proofs.Lent.{lent_before, Lends}
use Rattle.dsql_laws_calls.proofs.Lines.{line_there}
use Rattle.dsql_laws_calls.proofs.Looks.{heard_there}
use Rattle.dsql_laws_calls.proofs.Own.{own_way}
use Rattle.dsql_laws_calls.proofs.Owners.{same_owner_is}
use Rattle.dsql_laws_calls.proofs.Plain.{line_plain, no_ending_due, plain_ends, with_ends}
use Rattle.dsql_laws_calls.proofs.Why.{ended_there}
use Rattle.dsql_laws_due.proofs.CallWays.{CallWay, call_way}
use Rattle.dsql_laws_due.proofs.Holds.{EndsWay, Holds, IsOther, RowsWay, TestsWay, TxWay}
use Rattle.dsql_laws_due.proofs.Kept.{holds}
use Rattle.dsql_laws_once.specs.Transactions.{endings}
use Rattle.dsql_laws_once.proofs.Once.{zero_or}
use Rattle.dsql_laws_once.proofs.Spent.{never, one_place}

-- Where a `Commit` or a `Rollback` is heard.

record HeardThere (H : List Event) (e : Entry) : Type 0 where
  lent : place H e.conn ≡ Some (Lent e.tenure e.owner)
  comes : may_come H e ≡ true

not_connect : (q : DriverCall) → is_connect q ≡ true → is_ending q ≡ false
not_connect calls.Connect h = refl
not_connect q h = absurd cc

not_shut : (q : DriverCall) → is_shut q ≡ true → is_ending q ≡ false
not_shut calls.Shut h = refl
not_shut q h = absurd cc

ending_there : (H : List Event) (e : Entry) → Allowed H (Heard e) → is_ending e.call ≡ true → HeardThere H e
ending_there H e a ending = let there = heard_there H e a in by (place H e.conn) refl there.sets there.line
  where
    by : (at : Option Place) → place H e.conn ≡ at → hears_in (pool H) at e ≡ true → sends_from H at e ≡ true → HeardThere H e
    by (Some (Lent t o)) is h line =
        let x = both (not (is_connect e.call || is_shut e.call)) ((e.tenure == t) && same_owner e.owner o) h in
        let y = both (e.tenure == t) (same_owner e.owner o) x.1 in
        record {
          lent = is ∙ (ap (λ u. Some (Lent u o)) (sym (same_number e.tenure t y.0)) ∙ ap (λ p. Some (Lent e.tenure p)) (sym (same_owner_is e.owner o y.1)));
          comes = line;
        }
    by (Some (Opening w)) is h line = let x = both (is_connect e.call) ((e.tenure == 1) && is_house_entry e) h in absurd (never (is_ending e.call) ending (not_connect e.call x.0))
    by (Some Closing) is h line = let x = both (is_shut e.call) ((e.tenure == next_tenure (pool H) e.conn) && is_house_entry e) h in absurd (never (is_ending e.call) ending (not_shut e.call x.0))
    by (Some Idle) is h line = absurd cc
    by None is h line = absurd cc

-- No line of a call has an ending due.
line_ends_none : (H : List Event) (c t : ℕ) (own : Owner) (n : ℕ) (q : DriverCall) → is_due (line_there H c t own n wishes.Nothing) q ≡ true → is_ending q ≡ false
line_ends_none H c t own n q h =
    no_ending_due (line_there H c t own n wishes.Nothing) q (with_ends (sender H n c wishes.Nothing) (line_in own n (heard_in H c t))) h

-- So an ending is sent by a call that ends a transaction, or by the layer.
ending_other : (H : List Event) (e : Entry) → Lawful H → may_come H e ≡ true → is_ending e.call ≡ true → IsOther H e.call_no
ending_other H e l may ending = record { asks_none = of_asks (asks (work H e.call_no)) refl; outside = of_scope (scope (work H e.call_no)) refl }
  where
    of_asks : (b : Bool) → asks (work H e.call_no) ≡ b → b ≡ false
    of_asks false is = refl
    of_asks true is = absurd (numbered (e.call_no == 0) refl)
      where
        numbered : (b : Bool) → (e.call_no == 0) ≡ b → ⊥
        numbered true layer = let none = ap (λ w. asks w) (ap (work H) (same_number e.call_no 0 layer) ∙ zero_work H) in never (asks (work H e.call_no)) is none
        numbered false some = let w = own_way H e l may some is in never (is_ending e.call) ending (line_ends_none H e.conn e.tenure w.owner (number_of w.owner) e.call w.due)

    of_scope : (s : Scope) → scope (work H e.call_no) ≡ s → s ≡ Db
    of_scope Db is = refl
    of_scope (Held k) is =
        let s = sound H l in
        let u = s.coming e may in
        let some : e.call_no ≢ 0 = λ none. never (e.call_no == 0) (ap (λ j. j == 0) none) (number_not H e.call_no k is) in
        let number : number_of u.owner ≡ k = sym (u.borrowed some) ∙ inside_uses H e.call_no k is in
        let way = u.within (is ∙ ap Held (sym number)) in
        absurd (never (is_ending e.call) ending (line_ends_none H e.conn e.tenure u.owner e.call_no e.call way.due))

-- It is sent in a tenure of a transaction that was begun and for which no end was heard yet.

record EndsIt (H : List Event) (e : Entry) : Type 0 where
  lent : place H e.conn ≡ Some (Lent e.tenure e.owner)
  begun : is_begun H (number_of e.owner) ≡ true
  none : ended_there (heard_in H e.conn e.tenure) ≡ false

ends_it : (H : List Event) (e : Entry) → Lawful (Heard e ∷ H) → is_ending e.call ≡ true → EndsIt H e
ends_it H e l ending = of_owner (is_call e.owner) refl
  where
    at : HeardThere H e
    at = ending_there H e l.1 ending

    other : IsOther H e.call_no
    other = let x = ending_there H e l.1 ending in ending_other H e l.0 x.comes ending

    of_call : CallWay H e.conn e.tenure e.owner e.call_no e.call → is_ending e.call ≡ false
    of_call w =
        no_ending_due (call_line H e.conn e.tenure e.owner w.wish) e.call
        (plain_ends (call_line H e.conn e.tenure e.owner w.wish) (line_plain (caps H) (is_reset_due H e.conn) (asked_by H (number_of e.owner)) w.wish (heard_in H e.conn e.tenure))) w.due

    not_rows : RowsWay H e.conn e.tenure e.owner e.call_no e.call → is_ending e.call ≡ false
    not_rows w =
        no_ending_due (line_there H e.conn e.tenure e.owner w.n w.wish) e.call
        (with_ends (sender H w.n e.conn w.wish) (line_in e.owner w.n (heard_in H e.conn e.tenure))) w.due

    of_tx : TxWay H e.conn e.tenure e.owner e.call_no e.call → EndsIt H e
    of_tx w = by w.way
      where
        by : RowsWay H e.conn e.tenure e.owner e.call_no e.call ⊎ (EndsWay H e.conn e.tenure e.call ⊎ TestsWay H e.conn e.tenure e.call) → EndsIt H e
        by (inl rows) = absurd (never (is_ending e.call) ending (not_rows rows))
        by (inr (inl ends)) = record { lent = at.lent; begun = w.begun; none = ends.none }
        by (inr (inr tests)) = absurd (never (is_ending e.call) ending (ap is_ending tests.tests))

    of_owner : (b : Bool) → is_call e.owner ≡ b → EndsIt H e
    of_owner true call = absurd (never (is_ending e.call) ending (of_call (call_way H e e.owner l.0 at.comes at.lent call other)))
    of_owner false tx = of_tx (Holds.coming (holds H l.0) e e.owner at.comes at.lent tx other)

-- After an ending was heard, this is known wherever the transaction has a connection.

record EndedOnce (H : List Event) (k : ℕ) : Type 0 where
  few : endings H k ≤ 1
  begun : 1 ≤ endings H k → is_begun H k ≡ true
  ended : 1 ≤ endings H k → (c t : ℕ) (own : Owner) → place H c ≡ Some (Lent t own) → number_of own ≡ k → ended_there (heard_in H c t) ≡ true

none_before : (H : List Event) (e : Entry) → Lawful (Heard e ∷ H) → EndedOnce H (number_of e.owner) → is_ending e.call ≡ true → endings H (number_of e.owner) ≡ 0
none_before H e l o ending =
    let x = ends_it H e l ending in
    zero_or (endings H (number_of e.owner)) o.few (λ more. never (ended_there (heard_in H e.conn e.tenure)) (o.ended more e.conn e.tenure e.owner x.lent refl) x.none)

later : (a b : Bool) → b ≡ true → (a || b) ≡ true
later true b h = refl
later false b h = h

-- It stays known after each answer.
still_ended : (H : List Event) (e : Entry) (c t : ℕ) (own : Owner) → Lawful (Heard e ∷ H) → place H c ≡ Some (Lent t own) → ended_there (heard_in H c t) ≡ true → ended_there (heard_in (Heard e ∷ H) c t) ≡ true
still_ended H e c t own l is h = by (same_or_not e.conn c)
  where
    by : (e.conn ≡ c) ⊎ (e.conn ≢ c) → ended_there (heard_in (Heard e ∷ H) c t) ≡ true
    by (inl here) = ap ended_there (heard_more H e c t own l.1 is here) ∙ later (is_ending e.call) (ended_there (heard_in H c t)) h
    by (inr off) = ap (λ J. ended_there (of_tenure t J)) (heard_other H e c off) ∙ h

ended_heard : (H : List Event) (e : Entry) (k : ℕ) → Lawful (Heard e ∷ H) → EndedOnce H k → EndedOnce (Heard e ∷ H) k
ended_heard H e k l o = by (number_of e.owner == k) (is_ending e.call) refl refl
  where
    idle : endings (Heard e ∷ H) k ≡ endings H k → EndedOnce (Heard e ∷ H) k
    idle counted = record {
      few = let had = o.few in omega (arith, counted, had);
      begun = λ out. stays_begun H (Heard e) k (o.begun (omega (arith, counted, out)));
      ended = λ out c t own is number. still_ended H e c t own l is (o.ended (omega (arith, counted, out)) c t own is number);
    }

    counts : number_of e.owner ≡ k → is_ending e.call ≡ true → endings (Heard e ∷ H) k ≡ endings H k + 1 → EndedOnce (Heard e ∷ H) k
    counts its ending counted =
        let x = ends_it H e l ending in
        let none : endings H k ≡ 0 = subst (λ j. endings H j ≡ 0) its (none_before H e l (subst (λ j. EndedOnce H j) (sym its) o) ending) in
        record {
          few = omega (arith, counted, none);
          begun = λ out. stays_begun H (Heard e) k (ap (is_begun H) (sym its) ∙ x.begun);
          ended = λ out c t own is number.
              let one = one_place H e.conn e.tenure c t e.owner own l.0 x.lent is (its ∙ sym number) in
              ap ended_there (heard_more H e c t own l.1 is one.0) ∙ ap (λ b. b || ended_there (heard_in H c t)) ending;
        }

    by : (b c : Bool) → (number_of e.owner == k) ≡ b → is_ending e.call ≡ c → EndedOnce (Heard e ∷ H) k
    by true true its ending = counts (same_number (number_of e.owner) k its) ending (ap (λ b. cond (b && is_ending e.call) (endings H k + 1) (endings H k)) its ∙ ap (λ b. cond b (endings H k + 1) (endings H k)) ending)
    by true false its ending = idle (ap (λ b. cond (b && is_ending e.call) (endings H k + 1) (endings H k)) its ∙ ap (λ b. cond b (endings H k + 1) (endings H k)) ending)
    by false c its ending = idle (ap (λ b. cond (b && is_ending e.call) (endings H k + 1) (endings H k)) its)

-- Every other event keeps this, because the transaction is lent no other connection.
ended_on : (H : List Event) (e : Event) (k : ℕ) → Lawful (e ∷ H) → is_answer e ≡ false → endings (e ∷ H) k ≡ endings H k → EndedOnce H k → EndedOnce (e ∷ H) k
ended_on H e k l quiet counted o = record {
  few = let had = o.few in omega (arith, counted, had);
  begun = λ out. stays_begun H e k (o.begun (omega (arith, counted, out)));
  ended = λ out c t own is number. at (omega (arith, counted, out)) c t own number (lent_before H e c t own l.0 is);
}
  where
    at : 1 ≤ endings H k → (c t : ℕ) (own : Owner) → number_of own ≡ k → (place H c ≡ Some (Lent t own)) ⊎ Lends e c t own → ended_there (heard_in (e ∷ H) c t) ≡ true
    at more c t own number (inl before) = ap (λ J. ended_there (of_tenure t J)) (heard_same H e c quiet) ∙ o.ended more c t own before number
    at more c t own number (inr w) = absurd (lent_once_begun H c t own w.0 l.0 (subst (λ x. Allowed H x) w.1 l.1) (beginnings H l.0) (ap (is_begun H) number ∙ o.begun more))

once : (H : List Event) (k : ℕ) → Lawful H → EndedOnce H k
once [] k l = record { few = omega arith; begun = λ out. absurd (omega (arith, out)); ended = λ out. absurd (omega (arith, out)) }
once (Heard e ∷ H) k l = ended_heard H e k l (once H k l.0)
once (e ∷ H) k l = ended_on H e k l refl refl (once H k l.0)

pub ended_at_most_once : (H : List Event) (k : ℕ) → Lawful H → endings H k ≤ 1
ended_at_most_once H k l = let o = once H k l in o.few

pub ended_first : (H : List Event) (e : Entry) → Lawful (Heard e ∷ H) → is_ending e.call ≡ true → endings H (number_of e.owner) ≡ 0
ended_first H e l ending = none_before H e l (once H (number_of e.owner) l.0) ending
