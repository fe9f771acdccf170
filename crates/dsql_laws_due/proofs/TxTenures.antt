-- How a transaction's tenure stands in the journal, in the terms of the laws of journals.
use Rattle.std.proofs.Common.{◌≡◌, ℕ, ◌<◌, ◌≤◌, ◌==◌, Bool, true, false, ◌&&◌, ◌||◌, cond, List, [], ◌∷◌, ◌++◌, Some, None, is_some, nat_lt, refl, sym, ap, ◌∙◌, arith}
use Rattle.std.specs.List.{list_any}
use Rattle.std.proofs.lemmas.Bool.Decides.{nat_tests}
use Rattle.std.proofs.lemmas.Bool.{or_parts, or_right}
use Rattle.dsql_laws_calls.specs.driver.declared.call.DriverCall.{DriverCall}
use Rattle.dsql_laws_calls.specs.driver.Fits.{is_done}
use Rattle.dsql_laws_calls.specs.driver.Kinds.{is_begin}
use Rattle.dsql_laws_calls.specs.journal.declared.entry.Entry.{Entry}
use Rattle.dsql_laws_calls.specs.journal.declared.entry.Owner.{Owner}
use Rattle.dsql_laws_calls.specs.journal.declared.entry.Owner.TheVariants.{Call, Tx, Pin, House}
use Rattle.dsql_laws_calls.specs.journal.Facts.{MayFollow}
use Rattle.dsql_laws_calls.specs.journal.Journal.{IsJournalPrefix, is_journal_prefix, may_follow}
use Rattle.dsql_laws_calls.specs.journal.Kinds.{is_call, number_of}
use Rattle.dsql_laws_calls.specs.journal.Readers.{begins, is_empty, last_tenure, of_tenure, of_transaction}
use Rattle.dsql_laws_calls.proofs.journal.Conjunctions.{if_so, parts2, parts3}
use Rattle.dsql_laws_calls.proofs.journal.Sentences.{MayFollow-of}
use Rattle.dsql_laws_calls.proofs.journal.Tenures.{of_tenure-new}
use Rattle.dsql_laws_calls.specs.numbered.Numbered.{Numbered, thing_of}
use Rattle.dsql_laws_calls.specs.pool.declared.conn.Place.TheVariants.{Lent}
use Rattle.dsql_laws_calls.specs.tx.Transactions.{begun_on}
use Rattle.dsql_laws_calls.specs.tx.declared.tx.Tx.{Tx as Trans}
use Rattle.dsql_laws_calls.proofs.laws.Tests.{same_itself, same_number, other_number}
use Rattle.dsql_laws_calls.specs.history.declared.event.Event.{Event}
use Rattle.dsql_laws_calls.specs.history.declared.event.Event.TheVariants.{Heard}
use Rattle.dsql_laws_calls.specs.history.declared.work.Work.{Work}
use Rattle.dsql_laws_calls.specs.history.declared.work.Work.TheVariants.{Begin}
use Rattle.dsql_laws_calls.specs.history.Readers.Course.{caps}
use Rattle.dsql_laws_calls.specs.history.Readers.Journals.{heard_in, journal}
use Rattle.dsql_laws_calls.specs.history.Readers.Lines.{is_of_line, line_among}
use Rattle.dsql_laws_calls.specs.history.Readers.Pool.{place}
use Rattle.dsql_laws_calls.specs.history.Readers.Transactions.{is_begun, transactions}
use Rattle.dsql_laws_calls.specs.history.Readers.Works.{work}
use Rattle.dsql_laws_calls.specs.history.Rules.Sent.{is_reset_due}
use Rattle.dsql_laws_calls.specs.history.Legal.{KeepsJournals, Lawful}
use Rattle.dsql_laws_calls.proofs.laws.Journals.{keeps_journals_of}
use Rattle.dsql_laws_tenures.specs.Connections.{IsAlone, IsOpen}
use Rattle.dsql_laws_tenures.specs.Begins.{HasEnded, IsLentTo}
use Rattle.dsql_laws_tenures.specs.Tenures.{GoesOn}
use Rattle.dsql_laws_calls.proofs.Beginnings.{last_began, numbered}
use Rattle.dsql_laws_calls.proofs.BeginningsAt.{beginnings}
use Rattle.dsql_laws_calls.proofs.Begun.{stays_begun}
use Rattle.dsql_laws_calls.proofs.Plain as of_plain
use Rattle.dsql_laws_calls.proofs.UnderWay.{clash}
use Rattle.dsql_laws_calls.proofs.Why.{ended_there}
use Rattle.dsql_laws_due.proofs.Holds.{begin_of, Opening, TestsWay}
use Rattle.dsql_laws_due.proofs.Kept.{holds}
use Rattle.dsql_laws_due.proofs.Owned.{of_transaction as tenure_of}
use Rattle.dsql_laws_due.proofs.Standing.{LentTo, lends, lent_to}
use Rattle.dsql_laws_due.proofs.Stood.{stands}
use Rattle.dsql_laws_due.proofs.Ways.{owner_begins}

-- The transaction's tenure has the connection alone.
pub alone_of : (H : List Event) (c t : ℕ) (own : Owner) → Lawful H → place H c ≡ Some (Lent t own) → is_call own ≡ false → IsAlone c t (journal H c)
alone_of H c t own l is other = by own (lent_to H c t own (stands H l c) is) other
  where
    by : (o : Owner) → LentTo c (lends H c) t o (journal H c) → is_call o ≡ false → IsAlone c t (journal H c)
    by (Call n) s h = absurd cc
    by (Tx k) s h = s.1
    by (Pin n) s h = absurd s
    by House s h = absurd s

-- If the Begin of a call was done, the history records that the call has begun its transaction.

made_now : (k : ℕ) (x : Trans) (txs : Numbered Trans) → is_some (thing_of k (txs ++ (k, x) ∷ [])) ≡ true
made_now k x [] = ap (λ b. is_some (cond b (Some x) None)) (same_itself k)
made_now k x (it ∷ txs) = by (k == it.0) (made_now k x txs)
  where
    by : (b : Bool) → is_some (thing_of k (txs ++ (k, x) ∷ [])) ≡ true → is_some (cond b (Some it.1) (thing_of k (txs ++ (k, x) ∷ []))) ≡ true
    by true h = refl
    by false h = h

began_of : (H : List Event) (c k : ℕ) → list_any (λ e. begins e && e.call_no == k) (journal H c) ≡ true → is_begun H k ≡ true
began_of [] c k h = absurd cc
began_of (Heard e ∷ H) c k h = by (began_of H c k) (e.conn == c) h
  where
    now : (list_any (λ x. begins x && x.call_no == k) (journal H c) ≡ true → is_begun H k ≡ true) → (b : Bool) → (begins e && e.call_no == k) ≡ b → (b || list_any (λ x. begins x && x.call_no == k) (journal H c)) ≡ true
        → is_begun (Heard e ∷ H) k ≡ true
    now rest true is x =
        let p = parts2 (begins e) (e.call_no == k) is in
        ap (λ b. is_some (thing_of k (cond b (transactions H ++ (e.call_no, begun_on e.conn e.tenure None) ∷ []) (transactions H)))) p.0
        ∙ (ap (λ n. is_some (thing_of k (transactions H ++ (n, begun_on e.conn e.tenure None) ∷ []))) (same_number e.call_no k p.1) ∙ made_now k (begun_on e.conn e.tenure None) (transactions H))
    now rest false is x = stays_begun H (Heard e) k (rest x)

    by : (list_any (λ x. begins x && x.call_no == k) (journal H c) ≡ true → is_begun H k ≡ true) → (b : Bool) → list_any (λ x. begins x && x.call_no == k) (cond b (e ∷ journal H c) (journal H c)) ≡ true
        → is_begun (Heard e ∷ H) k ≡ true
    by rest true x = now rest (begins e && e.call_no == k) refl x
    by rest false x = stays_begun H (Heard e) k (rest x)
began_of (e ∷ H) c k h = stays_begun H e k (began_of H c k h)

-- A transaction has no entries before its Begin is done.
no_entries : (k : ℕ) (J : List Entry) → (k == 0) ≡ false → IsJournalPrefix J → list_any (λ e. begins e && e.call_no == k) J ≡ false → of_transaction k J ≡ []
no_entries k [] some beginning none = refl
no_entries k (e ∷ J) some beginning none =
    let p = parts2 (may_follow J e) (is_journal_prefix J) beginning in
    let q = or_parts (begins e && e.call_no == k) (list_any (λ x. begins x && x.call_no == k) J) none in
    let rest = no_entries k J some p.1 q.1 in
    by (e.tx == k) refl (MayFollow-of J e p.0) q.0 rest
  where
    by : (b : Bool) → (e.tx == k) ≡ b → MayFollow J e → (begins e && e.call_no == k) ≡ false → of_transaction k J ≡ [] → cond b (e ∷ of_transaction k J) (of_transaction k J) ≡ []
    by true is m not_begun rest =
        let tx : e.tx ≡ k = same_number e.tx k is in
        let t = m.transaction (λ none. clash (sym (ap (λ n. n == 0) (sym tx ∙ none)) ∙ some)) in
        let empty : is_empty (of_transaction e.tx J) ≡ true = ap (λ n. is_empty (of_transaction n J)) tx ∙ ap is_empty rest in
        let first = if_so (is_empty (of_transaction e.tx J)) (is_begin e.call && is_done e.answer && e.call_no == e.tx) t.begin_first empty in
        let parts = parts3 (is_begin e.call) (is_done e.answer) (e.call_no == e.tx) first in
        let begun : (begins e && e.call_no == k) ≡ true = rw (parts.0, parts.1) (ap (λ n. e.call_no == n) (sym tx) ∙ parts.2) in
        clash (sym begun ∙ not_begun)
    by false is m not_begun rest = rest

begin_is : (w : Work) → of_plain.begins w ≡ true → is_begin (begin_of w) ≡ true
begin_is (Begin label level read_only) h = refl
begin_is w h = absurd cc

-- The tenure before the Begin is done.
pub lent_to_tx : (H : List Event) (c t : ℕ) (own : Owner) → Lawful H → place H c ≡ Some (Lent t own) → is_call own ≡ false → is_begun H (number_of own) ≡ false
    → IsLentTo (caps H) (is_reset_due H c) (begin_of (work H (number_of own))) c (number_of own) t (journal H c)
lent_to_tx H c t own l is other unbegun = record {
  begins = begin_is (work H (number_of own)) begin;
  tenure = tenure_of H c t own l is other;
  line = opening.line;
  numbered = numbered H (number_of own) begin;
  no_entries = no_entries (number_of own) (journal H c) (numbered H (number_of own) begin) (keeps.beginnings c) (none (list_any (λ e. begins e && e.call_no == number_of own) (journal H c)) refl);
  opened = journal_open.opened;
  one_connection = journal_open.one_connection;
  rising = alone.rising;
  whole_before = λ below. alone.whole_elsewhere (last_tenure (journal H c)) (other_number (last_tenure (journal H c)) t (λ same. absurd (omega (arith, below, same))));
  bad_here = alone.bad_here;
  invalid_here = alone.invalid_here;
  not_refused = journal_open.not_refused;
  not_shut = journal_open.not_shut;
}
  where
    begin : of_plain.begins (work H (number_of own)) ≡ true
    begin = owner_begins H c t own l is other

    opening : Opening H c t own
    opening = let h = holds H l in let kept = h.kept in kept.opening c t own is other unbegun

    keeps : KeepsJournals H
    keeps = keeps_journals_of H l

    alone : IsAlone c t (journal H c)
    alone = alone_of H c t own l is other

    journal_open : IsOpen c (journal H c)
    journal_open = alone.is_open

    none : (b : Bool) → list_any (λ e. begins e && e.call_no == number_of own) (journal H c) ≡ b → b ≡ false
    none true begun = clash (sym (began_of H c (number_of own) begun) ∙ unbegun)
    none false begun = refl

-- The tenure once the Begin is done.

began_any : (L : List Entry) → last_began L ≡ true → list_any begins L ≡ true
began_any [] h = absurd cc
began_any (e ∷ L) h = ap (λ b. b || list_any begins L) h

among_any : (n : ℕ) (L : List Entry) → list_any begins (line_among n L) ≡ true → list_any begins L ≡ true
among_any n [] h = absurd cc
among_any n (e ∷ L) h = by (among_any n L) (is_of_line n e (line_among n L)) h
  where
    either : (a b : Bool) → (b ≡ true → list_any begins L ≡ true) → (a || b) ≡ true → (a || list_any begins L) ≡ true
    either true b f x = refl
    either false b f x = f x

    by : (list_any begins (line_among n L) ≡ true → list_any begins L ≡ true) → (b : Bool) → list_any begins (cond b (e ∷ line_among n L) (line_among n L)) ≡ true → (begins e || list_any begins L) ≡ true
    by rest true x = either (begins e) (list_any begins (line_among n L)) rest x
    by rest false x = or_right (begins e) (list_any begins L) (rest x)

pub begun_there : (H : List Event) (c t : ℕ) (own : Owner) → Lawful H → place H c ≡ Some (Lent t own) → is_begun H (number_of own) ≡ true → list_any begins (of_tenure t (journal H c)) ≡ true
begun_there H c t own l is begun =
    let b = beginnings H l in
    among_any (number_of own) (heard_in H c t) (began_any (line_among (number_of own) (heard_in H c t)) (b.began c t own is begun))

under_way : (t : ℕ) (J : List Entry) → IsJournalPrefix J → last_tenure J ≤ t → list_any begins (of_tenure t J) ≡ true → last_tenure J ≡ t
under_way t J beginning rising some = by (nat_lt (last_tenure J) t) refl
  where
    by : (b : Bool) → nat_lt (last_tenure J) t ≡ b → last_tenure J ≡ t
    by true is =
        let less : last_tenure J < t = grind (arith, nat_tests, is) in
        clash (sym some ∙ ap (list_any begins) (of_tenure-new t J beginning less))
    by false is = grind (arith, nat_tests, is, rising)

pub goes_on_tx : (H : List Event) (c t : ℕ) (own : Owner) → Lawful H → place H c ≡ Some (Lent t own) → is_call own ≡ false → is_begun H (number_of own) ≡ true → ended_there (heard_in H c t) ≡ false → GoesOn c (number_of own) t (journal H c)
goes_on_tx H c t own l is other begun none =
    let alone = alone_of H c t own l is other in
    let journal_open = alone.is_open in
    let h = holds H l in
    let kept = h.kept in
    let some = begun_there H c t own l is begun in
    record {
      begun = record { tenure = tenure_of H c t own l is other; begun = some };
      one_connection = journal_open.one_connection;
      under_way = under_way t (journal H c) journal_open.beginning alone.rising some;
      not_ended = none;
      not_tested = kept.untested c t own is begun none;
      not_refused = journal_open.not_refused;
      not_shut = journal_open.not_shut;
    }

pub has_ended_tx : (H : List Event) (c t : ℕ) (own : Owner) (q : DriverCall) → Lawful H → place H c ≡ Some (Lent t own) → is_call own ≡ false → is_begun H (number_of own) ≡ true → TestsWay H c t q → HasEnded c (number_of own) t (journal H c)
has_ended_tx H c t own q l is other begun w =
    let alone = alone_of H c t own l is other in
    let journal_open = alone.is_open in
    record {
      tenure = tenure_of H c t own l is other;
      ended = w.ended;
      one_connection = journal_open.one_connection;
      under_way = under_way t (journal H c) journal_open.beginning alone.rising (begun_there H c t own l is begun);
      not_tested = w.untested;
      not_bad = w.good;
      not_refused = journal_open.not_refused;
      not_shut = journal_open.not_shut;
    }
