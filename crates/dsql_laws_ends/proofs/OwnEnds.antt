-- The call that ended a transaction sends the transaction's Commit or Rollback, and the layer sends it if no
-- call ended the transaction. The proof follows what is due for each kind of work.
use Rattle.std.proofs.Common.{◌≡◌, ℕ, ◌+◌, ◌==◌, ◌⊎◌, inl, inr, Bool, true, false, not, ◌&&◌, ◌||◌, cond, List, [], ◌∷◌, Option, Some, None, is_some, refl, sym, ap, subst, ◌∙◌}
use Rattle.std.proofs.lemmas.Bool.{or_cases}
use Rattle.std.specs.Prelude.{unwrap_or}
use Rattle.std.specs.List.{list_any}
use Rattle.std.specs.Option.{option_map}
use Rattle.dsql_laws_calls.specs.driver.declared.call.DriverCall.{DriverCall}
use Rattle.dsql_laws_calls.specs.driver.Kinds.{is_ending, is_valid}
use Rattle.dsql_laws_calls.specs.course.declared.course.Wish.{Wish}
use Rattle.dsql_laws_calls.specs.course.declared.course.Wish.TheVariants as wishes
use Rattle.dsql_laws_calls.specs.course.Made.{or_else}
use Rattle.dsql_laws_calls.specs.journal.declared.entry.Entry.{Entry}
use Rattle.dsql_laws_calls.specs.journal.declared.entry.Owner.{Owner}
use Rattle.dsql_laws_calls.specs.journal.Kinds.{number_of}
use Rattle.dsql_laws_calls.specs.journal.Readers.{went_bad}
use Rattle.dsql_laws_calls.specs.pool.declared.conn.Place.{Place}
use Rattle.dsql_laws_calls.specs.pool.declared.conn.Place.TheVariants.{Lent}
use Rattle.dsql_laws_calls.specs.tx.declared.end.TxEnd.{TxEnd}
use Rattle.dsql_laws_calls.specs.tx.declared.tx.Tx.{Tx}
use Rattle.dsql_laws_calls.specs.tx.Transactions.{ended_by}
use Rattle.dsql_laws_calls.specs.works.Line.{test_of}
use Rattle.dsql_laws_calls.proofs.laws.Tests.{both, same_number}
use Rattle.dsql_laws_calls.proofs.Cases.{true_false}
use Rattle.dsql_laws_calls.specs.history.declared.event.Event.{Event}
use Rattle.dsql_laws_calls.specs.history.declared.work.Scope.{Scope}
use Rattle.dsql_laws_calls.specs.history.declared.work.Scope.TheVariants.{Db, Held as InTx}
use Rattle.dsql_laws_calls.specs.history.declared.work.Work.{Work}
use Rattle.dsql_laws_calls.specs.history.declared.work.Work.TheVariants.{Fetch, Close, End, Look}
use Rattle.dsql_laws_calls.specs.history.Readers.Course.{caps}
use Rattle.dsql_laws_calls.specs.history.Readers.HandedOut.{are_over, ender}
use Rattle.dsql_laws_calls.specs.history.Readers.Journals.{heard_in, journal}
use Rattle.dsql_laws_calls.specs.history.Readers.Pool.{home, place}
use Rattle.dsql_laws_calls.specs.history.Readers.Transactions.{end_of, is_begun, is_over, tx_by, tx_end, tx_ender}
use Rattle.dsql_laws_calls.specs.history.Readers.Works.{borrower, hands_out_in, scope, work, works}
use Rattle.dsql_laws_calls.specs.history.Rules.Ending.{end_after, ended_by_call, ending, ending_at, ending_with, first_closing}
use Rattle.dsql_laws_calls.specs.history.Rules.Line.{due_for, due_in, due_inside, is_due, is_due_at, is_used, may_come, parts, sends_in, tidying}
use Rattle.dsql_laws_calls.specs.history.Rules.Sent.{close_due, line_of, sent_for, wish}
use Rattle.dsql_laws_calls.specs.history.Legal.{Lawful}
use Rattle.dsql_laws_calls.proofs.Begun.{Turned, over_begun, turned}
use Rattle.dsql_laws_calls.proofs.Coming.{sound}
use Rattle.dsql_laws_calls.proofs.Lent.{stays_lent}
use Rattle.dsql_laws_calls.proofs.Own.{DueNow, due_now, due_of, some_due}
use Rattle.dsql_laws_calls.proofs.Plain.{no_ending_due, plain_ends, test_plain}
use Rattle.dsql_laws_calls.proofs.UnderWay.{at_number, no_ending}
use Rattle.dsql_laws_calls.proofs.Why.{why_used}
use Rattle.dsql_laws_replies.proofs.EndReplies.{still_ender}

-- What ended a transaction stays the same, and so does the call that ended it.

ended_still : (by : TxEnd) (o : Option Tx) → is_some (end_of o) ≡ true → end_of (option_map (ended_by by) o) ≡ end_of o
ended_still by None h = absurd cc
ended_still by (Some tx) h = with_end tx.ended h
  where
    with_end : (o : Option TxEnd) → is_some o ≡ true → Some (unwrap_or o by) ≡ o
    with_end None k = absurd cc
    with_end (Some end) k = refl

pub end_stays : (H : List Event) (e : Event) (k : ℕ) → is_over H k ≡ true → tx_end (e ∷ H) k ≡ tx_end H k
end_stays H e k over = by (turned H e k (over_begun H k over))
  where
    by : Turned (tx_by H k) (tx_by (e ∷ H) k) → tx_end (e ∷ H) k ≡ tx_end H k
    by (inl same) = ap end_of same
    by (inr w) = ap end_of w.1 ∙ ended_still w.0 (tx_by H k) over

-- A Commit or Rollback that is due for a transaction is the one that ends it.

closing_ends_none : (H : List Event) (n : ℕ) (q : DriverCall) → is_due (close_due H n) q ≡ true → is_ending q ≡ false
closing_ends_none H n q h = by (are_over H n) h
  where
    by : (b : Bool) → is_due (cond b (line_of H n wishes.Close) None) q ≡ true → is_ending q ≡ false
    by true k = no_ending H n wishes.Close q k
    by false k = absurd cc

first_ends_none : (H : List Event) (k n : ℕ) (ws : List Work) (q : DriverCall) → is_due (first_closing H k n ws) q ≡ true → is_ending q ≡ false
first_ends_none H k n [] q h = absurd cc
first_ends_none H k n (it ∷ ws) q h = by (first_ends_none H k (n + 1) ws q) (hands_out_in k it) (close_due H n) refl h
  where
    by : (is_due (first_closing H k (n + 1) ws) q ≡ true → is_ending q ≡ false) → (b : Bool) (o : Option DriverCall) → close_due H n ≡ o → is_due (or_else (cond b o None) (first_closing H k (n + 1) ws)) q ≡ true → is_ending q ≡ false
    by rest true (Some d) is x = closing_ends_none H n q (ap (λ o. is_due o q) is ∙ x)
    by rest true None is x = rest x
    by rest false o is x = rest x

record EndDue (H : List Event) (k : ℕ) (q : DriverCall) : Type 0 where
  end : TxEnd
  is : tx_end H k ≡ Some end
  due : is_due (Some (ended_by_call end)) q ≡ true

due_after : (H : List Event) (bad : Bool) (end : TxEnd) (L : List Entry) (q : DriverCall) → is_due (end_after H bad end L) q ≡ true → is_ending q ≡ true → is_due (Some (ended_by_call end)) q ≡ true
due_after H bad end L q h ends = by (list_any (λ e. is_ending e.call) L) (bad || list_any (λ e. is_valid e.call) L) h
  where
    by : (a b : Bool) → is_due (cond a (cond b None (test_of (caps H))) (Some (ended_by_call end))) q ≡ true → is_due (Some (ended_by_call end)) q ≡ true
    by true true k = absurd cc
    by true false k = absurd (true_false (is_ending q) ends (no_ending_due (test_of (caps H)) q (plain_ends (test_of (caps H)) (test_plain (caps H))) k))
    by false b k = k

end_due : (H : List Event) (k : ℕ) (q : DriverCall) → is_due (ending H k) q ≡ true → is_ending q ≡ true → EndDue H k q
end_due H k q h ends = by (tx_end H k) refl h
  where
    rows_first : (end : TxEnd) (bad : Bool) (L : List Entry) (o : Option DriverCall) → first_closing H k 0 (works H) ≡ o → is_due (or_else o (end_after H bad end L)) q ≡ true → is_due (Some (ended_by_call end)) q ≡ true
    rows_first end bad L (Some d) is x = absurd (true_false (is_ending q) ends (first_ends_none H k 0 (works H) q (ap (λ o. is_due o q) is ∙ x)))
    rows_first end bad L None is x = due_after H bad end L q x ends

    at : (end : TxEnd) (c : ℕ) (p : Option Place) → is_due (ending_at H k c end p) q ≡ true → is_due (Some (ended_by_call end)) q ≡ true
    at end c (Some (Lent t o)) x = of_owner (number_of o == k) x
      where
        of_owner : (b : Bool) → is_due (cond b (or_else (first_closing H k 0 (works H)) (end_after H (went_bad (journal H c)) end (heard_in H c t))) None) q ≡ true → is_due (Some (ended_by_call end)) q ≡ true
        of_owner true y = rows_first end (went_bad (journal H c)) (heard_in H c t) (first_closing H k 0 (works H)) refl y
        of_owner false y = absurd cc
    at end c _ x = absurd cc

    by : (o : Option TxEnd) → tx_end H k ≡ o → is_due (ending_with H k o) q ≡ true → EndDue H k q
    by None is x = absurd cc
    by (Some end) is x = record { end = end; is = is; due = at end (home H k) (place H (home H k)) x }

-- The call that sends a Commit or Rollback has ended the transaction.

pub record EndWay (H : List Event) (e : Entry) : Type 0 where
  pub owner : Owner
  pub lent : place H e.conn ≡ Some (Lent e.tenure owner)
  pub end : TxEnd
  pub is : tx_end H (number_of owner) ≡ Some end
  pub due : is_due (Some (ended_by_call end)) e.call ≡ true
  pub ender : tx_ender H (number_of owner) ≡ e.call_no

sent_ends_none : (H : List Event) (k : ℕ) (w : Wish) (q : DriverCall) → is_due (sent_for H k w) q ≡ true → is_ending q ≡ false
sent_ends_none H k wishes.Nothing q h = absurd cc
sent_ends_none H k wishes.Fetch q h = no_ending H k wishes.Fetch q h
sent_ends_none H k wishes.Close q h = no_ending H k wishes.Close q h

inside_ends_none : (H : List Event) (m : ℕ) (s : Scope) (q : DriverCall) → is_due (due_inside H m s) q ≡ true → is_ending q ≡ false
inside_ends_none H m Db q h = no_ending H m wishes.Nothing q h
inside_ends_none H m (InTx k) q h = by (sends_in H m k) h
  where
    by : (b : Bool) → is_due (cond b (line_of H m wishes.Nothing) None) q ≡ true → is_ending q ≡ false
    by true x = no_ending H m wishes.Nothing q x
    by false x = absurd cc

-- Holds if call m ended transaction k and has this driver call due to end it.
record Ends (H : List Event) (m k : ℕ) (q : DriverCall) : Type 0 where
  work : work H m ≡ End k
  ender : tx_ender H k ≡ m
  due : is_due (ending H k) q ≡ true

ends_by : (H : List Event) (m : ℕ) (w : Work) (q : DriverCall) → work H m ≡ w → is_due (due_in H m w) q ≡ true → is_ending q ≡ true → (k : ℕ) × Ends H m k q
ends_by H m (Fetch k) q is h ends = absurd (true_false (is_ending q) ends (sent_ends_none H k (wish H m k) q h))
ends_by H m (Close k) q is h ends = absurd (true_false (is_ending q) ends (sent_ends_none H k (wish H m k) q h))
ends_by H m (End k) q is h ends = by (tx_ender H k == m) refl h
  where
    by : (b : Bool) → (tx_ender H k == m) ≡ b → is_due (cond b (ending H k) None) q ≡ true → (j : ℕ) × Ends H m j q
    by true same x = (k, record { work = is; ender = same_number (tx_ender H k) m same; due = x })
    by false other x = absurd cc
ends_by H m Look q is h ends = absurd cc
ends_by H m w q is h ends = absurd (true_false (is_ending q) ends (inside_ends_none H m (scope w) q h))

uses_of : (H : List Event) (m k : ℕ) → work H m ≡ End k → borrower H m ≡ k
uses_of H m k is = rw is refl

end_now : (H : List Event) (e : Entry) → is_due_at H (place H e.conn) e ≡ true → is_ending e.call ≡ true → EndWay H e
end_now H e h ends = by (e.call_no == 0) refl d.due
  where
    d : DueNow H e
    d = due_now H e h

    n : ℕ
    n = number_of d.owner

    ended : is_due (ending H n) e.call ≡ true → tx_ender H n ≡ e.call_no → EndWay H e
    ended due ender = let x = end_due H n e.call due ends in record { owner = d.owner; lent = d.lent; end = x.end; is = x.is; due = x.due; ender = ender }

    layer : (a b c : Bool) → (tx_ender H n == 0) ≡ b → (e.call_no == 0) ≡ true → is_due (cond a (cond b (ending H n) None) (cond c (close_due H n) None)) e.call ≡ true → EndWay H e
    layer true true c none zero x = ended x (same_number (tx_ender H n) 0 none ∙ sym (same_number e.call_no 0 zero))
    layer true false c none zero x = absurd cc
    layer false b true none zero x = absurd (true_false (is_ending e.call) ends (closing_ends_none H n e.call x))
    layer false b false none zero x = absurd cc

    called : (e.call_no == 0) ≡ false → is_due (due_for H e.call_no) e.call ≡ true → EndWay H e
    called some x =
        let it = due_of H e.call_no e.call x in
        let k = ends_by H e.call_no (work H e.call_no) e.call refl it.due ends in
        let at : home H k.0 ≡ e.conn = ap (home H) (sym (uses_of H e.call_no k.0 k.1.work)) ∙ d.site some in
        let its : n ≡ k.0 = at_number H k.0 e.conn e.tenure d.owner (some_due (ending H k.0) e.call k.1.due) at d.lent in
        ended (subst (λ j. is_due (ending H j) e.call ≡ true) (sym its) k.1.due) (ap (tx_ender H) its ∙ k.1.ender)

    by : (b : Bool) → (e.call_no == 0) ≡ b → is_due (cond b (tidying H n) (due_for H e.call_no)) e.call ≡ true → EndWay H e
    by true zero x = layer (is_begun H n) (tx_ender H n == 0) (ender H n == 0) refl zero x
    by false some x = called some x

same_lent : (t u : ℕ) (o p : Owner) → Some (Lent t o) ≡ Some (Lent u p) → o ≡ p
same_lent t u o p h = cc

-- This stays so while the driver call is in flight.
way_stays : (H : List Event) (last : Event) (e : Entry) → Lawful (last ∷ H) → may_come H e ≡ true → EndWay H e → EndWay (last ∷ H) e
way_stays H last e l may w =
    let n = number_of w.owner in
    let s = sound H l.0 in
    let u = s.coming e may in
    let same : u.owner ≡ w.owner = same_lent e.tenure e.tenure u.owner w.owner (sym u.lent ∙ w.lent) in
    let used : is_used H n ≡ true = subst (λ own. is_used H (number_of own) ≡ true) same (why_used H e.conn e.tenure u.owner e.call_no l.0 u.lent u.why) in
    let over : is_over H n ≡ true = ap (λ o. is_some o) w.is in
    record {
      owner = w.owner;
      lent = stays_lent H last e.conn e.tenure w.owner l.0 l.1 w.lent used;
      end = w.end;
      is = end_stays H last n over ∙ w.is;
      due = w.due;
      ender = still_ender H last n over ∙ w.ender;
    }

pub end_way : (H : List Event) (e : Entry) → Lawful H → may_come H e ≡ true → is_ending e.call ≡ true → EndWay H e
end_way [] e l h ends = absurd cc
end_way (last ∷ H) e l h ends = by (end_way H e l.0) (or_cases (is_due_at (last ∷ H) (place (last ∷ H) e.conn) e) (not (parts last e) && may_come H e) h)
  where
    by : (may_come H e ≡ true → is_ending e.call ≡ true → EndWay H e) → (is_due_at (last ∷ H) (place (last ∷ H) e.conn) e ≡ true) ⊎ ((not (parts last e) && may_come H e) ≡ true) → EndWay (last ∷ H) e
    by earlier (inl now) = end_now (last ∷ H) e now ends
    by earlier (inr could) = let b = both (not (parts last e)) (may_come H e) could in way_stays H last e l b.1 (earlier b.1 ends)
