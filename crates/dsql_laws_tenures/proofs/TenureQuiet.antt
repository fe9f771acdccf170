-- A quiet connection: to whom it can be lent, and what leaves it quiet.
use Rattle.std.proofs.Common.{◌≡◌, ℕ, ◌<◌, ◌≤◌, Bool, true, false, cond, not, ◌==◌, ◌&&◌, ◌||◌, List, [], ◌∷◌, refl, nat_lt}
use Rattle.std.specs.List.{list_all, list_any}
use native.Mathlib.Omega.{arith}
use Rattle.dsql_history.specs.driver.declared.answer.DriverAnswer.TheVariants.{Done}
use Rattle.dsql_history.specs.driver.declared.answer.DriverAnswer.{DriverAnswer}
use Rattle.dsql_history.specs.driver.declared.call.DriverCall.{DriverCall}
use Rattle.dsql_history.specs.driver.declared.call.DriverCall.TheVariants.{Begin, Shut}
use Rattle.dsql_history.specs.driver.declared.caps.Caps.{Caps}
use Rattle.dsql_history.specs.driver.Fits.{fits_of, is_done, is_invalid, is_memory}
use Rattle.dsql_history.specs.driver.Kinds.{is_bad, is_begin, is_ping, is_reset, is_shut, is_valid}
use Rattle.dsql_history.specs.journal.declared.entry.Entry.{Entry}
use Rattle.dsql_history.specs.journal.declared.entry.Owner.{Owner}
use Rattle.dsql_history.specs.journal.declared.entry.Owner.TheVariants.{Call}
use Rattle.dsql_history.specs.journal.Entries.{connect_entry, shut_entry}
use Rattle.dsql_history.specs.journal.Kinds.{◌⇒◌, is_call, is_tx_number}
use Rattle.dsql_history.specs.journal.Readers.{LiveHandle, begins, begun, cursors, handles, has, is_empty, last_tenure, of_tenure, of_transaction, was_shut, went_bad, went_invalid}
use Rattle.dsql_history.specs.journal.Tenure.{has_closed_cursors, has_closed_handles, has_ended_transactions, is_whole_tenure, place}
use Rattle.dsql_history.specs.journal.Journal.{IsJournalPrefix, is_journal_prefix, is_last_tenure_whole, may_follow}
use Rattle.dsql_history.specs.journal.Facts.{KeepsBody, KeepsTransaction, MayFollow}
use Rattle.dsql_history.proofs.journal.Conjunctions.{if_so, join2, parts2}
use Rattle.dsql_history.proofs.journal.PlainJournals.{Plain-connect, is_whole_tenure-plain}
use Rattle.dsql_history.proofs.journal.Sentences.{MayFollow-of, of-MayFollow}
use Rattle.dsql_history.proofs.journal.Tenures.{MayFollow-shut, of_tenure-new}
use Rattle.dsql_history.specs.works.Journals.{ends_invalid}
use Rattle.dsql_laws_tenures.specs.Begins.{IsLentTo}
use Rattle.dsql_laws_tenures.specs.Tenures.{IsOfTransaction}
use Rattle.dsql_laws_tenures.proofs.Numbers.{impossible, neither, neither_of, same_number, true_false}
use Rattle.dsql_laws_tenures.specs.Connections.{IsAlone, IsOpen, IsQuiet}
use Rattle.dsql_laws_tenures.proofs.Alone.{each_whole}
use Rattle.dsql_laws_tenures.proofs.Live.{owned_there}
use Rattle.dsql_laws_tenures.proofs.Transactions.{lent_alone, transaction_first}

-- A connection whose Connect alone was heard, and was answered Done, is quiet.
pub quiet_opened : (c : ℕ) → IsQuiet c (connect_entry c Done ∷ [])
quiet_opened c =
    let plain = Plain-connect c in
    record {
      is_open = record { beginning = refl; one_connection = plain.one; opened = refl; not_refused = refl; not_shut = refl };
      whole = λ n. is_whole_tenure-plain c n (connect_entry c Done ∷ []) plain;
      no_handles = refl;
      no_cursors = refl;
      not_bad = refl;
      not_invalid = refl;
    }

none_so : (test : Entry → Bool) (t : ℕ) (J : List Entry) → list_any test J ≡ false → list_all (λ x. test x ⇒ (x.tenure == t)) J ≡ true
none_so test t [] h = refl
none_so test t (x ∷ J) h =
    let p = neither (test x) (list_any test J) h in
    rw p.0 (none_so test t J p.1)

pub alone_first : (c t : ℕ) (J : List Entry) → IsQuiet c J → last_tenure J ≤ t → IsAlone c t J
alone_first c t J q rising = record {
  is_open = q.is_open;
  rising = rising;
  whole_elsewhere = λ n off. q.whole n;
  handles_here = rw q.no_handles refl;
  cursors_here = rw q.no_cursors refl;
  bad_here = none_so (λ x. is_bad x.answer) t J q.not_bad;
  invalid_here = none_so (λ x. is_invalid x.answer) t J q.not_invalid;
}

-- A transaction that wasn't begun has no entries.
pub none_begun : (k : ℕ) (J : List Entry) → IsJournalPrefix J → (k == 0) ≡ false → has k (begun J) ≡ false → of_transaction k J ≡ []
none_begun k [] beginning some none = refl
none_begun k (e ∷ J) beginning some none =
    let p = parts2 (may_follow J e) (is_journal_prefix J) beginning in
    let m : MayFollow J e = MayFollow-of J e p.0 in
    let here = by_begin (begins e) none in
    let rest : of_transaction k J ≡ [] = none_begun k J p.1 some here.0 in
    by_tx (e.tx == k) refl rest m here.1
  where
    by_begin : (b : Bool) → has k (cond b (e.tx ∷ begun J) (begun J)) ≡ false → (has k (begun J) ≡ false) × (b ≡ true → (e.tx == k) ≡ false)
    by_begin true h = let n = neither (e.tx == k) (has k (begun J)) h in (n.1, λ _. n.0)
    by_begin false h = (h, λ is. absurd cc)

    begins_it : (a b c : Bool) → a && b && c ≡ true → a && b ≡ true
    begins_it a b c h = let p = parts2 (a && b) c h in p.0

    by_tx : (b : Bool) → (e.tx == k) ≡ b → of_transaction k J ≡ [] → MayFollow J e → (begins e ≡ true → (e.tx == k) ≡ false) → cond b (e ∷ of_transaction k J) (of_transaction k J) ≡ []
    by_tx false is rest m off = rest
    by_tx true is rest m off =
        let same : e.tx ≡ k = same_number e.tx k is in
        let keeps : KeepsTransaction J e = m.transaction (λ zero. true_false (k == 0) (rw (← same, zero) refl) some) in
        let first : is_begin e.call && is_done e.answer && (e.call_no == e.tx) ≡ true = if_so (is_empty (of_transaction e.tx J)) (is_begin e.call && is_done e.answer && (e.call_no == e.tx)) keeps.begin_first (rw (same, rest) refl) in
        absurd (true_false (e.tx == k) is (off (begins_it (is_begin e.call) (is_done e.answer) (e.call_no == e.tx) first)))

-- A quiet connection can be lent to a transaction.
pub lent_first : (can : Caps) (reset_due : Bool) (begin : DriverCall) (c k t : ℕ) (J : List Entry) → IsQuiet c J → last_tenure J < t → is_begin begin ≡ true → (k == 0) ≡ false → has k (begun J) ≡ false
    → IsLentTo can reset_due begin c k t J
lent_first can reset_due begin c k t J q above is some none =
    let o = q.is_open in
    let new : of_tenure t J ≡ [] = of_tenure-new t J o.beginning above in
    lent_alone can reset_due begin c k t J (alone_first c t J q (omega arith)) (transaction_first k t J o.beginning above) is (rw new refl) some (none_begun k J o.beginning some none)

-- A call begins no transaction.
call_begins : (o : Owner) (J : List Entry) (e : Entry) → is_call o ≡ true → KeepsBody o J e → begins e ≡ true → ⊥
call_begins (Call n) J e is body begun = by_call e.call e.answer begun body.kind
  where
    by_call : (q : DriverCall) (a : DriverAnswer) → is_begin q && is_done a ≡ true → is_ping q || nat_lt 0 (place q) ≡ true → ⊥
    by_call (Begin level read_only) a h kind = impossible kind
    by_call _ a h kind = absurd cc
call_begins _ J e is body begun = absurd cc

begin_body : (q : DriverCall) (a : DriverAnswer) → is_begin q && is_done a ≡ true → not (is_reset q || is_valid q) ≡ true
begin_body (Begin level read_only) a h = refl
begin_body _ a h = absurd cc

calls_begin_none : (t : ℕ) (J : List Entry) → IsJournalPrefix J → list_all (λ x. is_call x.owner) (of_tenure t J) ≡ true → begun (of_tenure t J) ≡ []
calls_begin_none t [] beginning own = refl
calls_begin_none t (e ∷ J) beginning own =
    let p = parts2 (may_follow J e) (is_journal_prefix J) beginning in
    let m : MayFollow J e = MayFollow-of J e p.0 in
    by_tenure (e.tenure == t) own (λ rest. calls_begin_none t J p.1 rest) (λ is begun. call_begins e.owner J e is (m.tenure.in_body (begin_body e.call e.answer begun)) begun)
  where
    by_begin : (b : Bool) → begins e ≡ b → (begins e ≡ true → ⊥) → begun (of_tenure t J) ≡ [] → cond b (e.tx ∷ begun (of_tenure t J)) (begun (of_tenure t J)) ≡ []
    by_begin true is never rest = absurd (never is)
    by_begin false is never rest = rest

    by_tenure : (b : Bool) → list_all (λ x. is_call x.owner) (cond b (e ∷ of_tenure t J) (of_tenure t J)) ≡ true → (list_all (λ x. is_call x.owner) (of_tenure t J) ≡ true → begun (of_tenure t J) ≡ [])
        → (is_call e.owner ≡ true → begins e ≡ true → ⊥) → begun (cond b (e ∷ of_tenure t J) (of_tenure t J)) ≡ []
    by_tenure true own rest never =
        let p = parts2 (is_call e.owner) (list_all (λ x. is_call x.owner) (of_tenure t J)) own in
        by_begin (begins e) refl (λ begun. never p.0 begun) (rest p.1)
    by_tenure false own rest never = rest own

-- After a Bad, a tenure is whole if its transactions have ended: what is live doesn't count.
pub whole_when_ended : (t : ℕ) (J : List Entry) → has_ended_transactions t J ≡ true → went_bad J ≡ true → is_whole_tenure t J ≡ true
whole_when_ended t J ended bad = join2 (has_ended_transactions t J) (went_bad J || has_closed_cursors t J && has_closed_handles t J) ended (rw bad refl)

pub whole_when_bad : (t : ℕ) (J : List Entry) → IsJournalPrefix J → list_all (λ x. is_call x.owner) (of_tenure t J) ≡ true → went_bad J ≡ true → is_whole_tenure t J ≡ true
whole_when_bad t J beginning own bad = whole_when_ended t J (rw (calls_begin_none t J beginning own) refl) bad

-- A list is empty if all of its elements pass a test and all fail it.
none_both : {X : Type 0} (f : X → Bool) (xs : List X) → list_all f xs ≡ true → list_all (λ x. not (f x)) xs ≡ true → xs ≡ []
none_both f [] all none = refl
none_both f (x ∷ xs) all none =
    let p = parts2 (f x) (list_all f xs) all in
    let n = parts2 (not (f x)) (list_all (λ y. not (f y)) xs) none in
    absurd (impossible (rw p.0 at n.0))

no_owner : (o : Owner) (k : ℕ) → is_tx_number k o ≡ true → is_call o ≡ true → ⊥
no_owner (Call n) k tx call = absurd cc
no_owner _ k tx call = absurd cc

none_kept : (k t : ℕ) (live : List LiveHandle) → list_all (λ h. h.tenure == t) live ≡ true → list_all (λ h. (h.tenure == t) ⇒ is_tx_number k h.owner) live ≡ true
    → list_all (λ h. (h.tenure == t) ⇒ is_call h.owner) live ≡ true → live ≡ []
none_kept k t [] here own closed = refl
none_kept k t (h ∷ live) here own closed =
    let a = parts2 (h.tenure == t) (list_all (λ x. x.tenure == t) live) here in
    let b = parts2 ((h.tenure == t) ⇒ is_tx_number k h.owner) (list_all (λ x. (x.tenure == t) ⇒ is_tx_number k x.owner) live) own in
    let c = parts2 ((h.tenure == t) ⇒ is_call h.owner) (list_all (λ x. (x.tenure == t) ⇒ is_call x.owner) live) closed in
    absurd (no_owner h.owner k (if_so (h.tenure == t) (is_tx_number k h.owner) b.0 a.0) (if_so (h.tenure == t) (is_call h.owner) c.0 a.0))

-- If the connection wasn't shut and its newest entry isn't a test that failed, no test failed: only a Shut may
-- follow such a test.
pub never_invalid : (J : List Entry) → IsJournalPrefix J → was_shut J ≡ false → ends_invalid J ≡ false → went_invalid J ≡ false
never_invalid [] beginning unshut well = refl
never_invalid (e ∷ J) beginning unshut well =
    let p = parts2 (may_follow J e) (is_journal_prefix J) beginning in
    let m : MayFollow J e = MayFollow-of J e p.0 in
    let open_on = neither (is_shut e.call) (was_shut J) unshut in
    neither_of (is_invalid e.answer) (went_invalid J) well (off (went_invalid J) (is_shut e.call) m.whole_journal.shut_when_invalid open_on.0)
  where
    off : (b c : Bool) → b ⇒ c ≡ true → c ≡ false → b ≡ false
    off true c h k = absurd (true_false c h k)
    off false c h k = refl

or_right : (a b : Bool) → a || b ≡ true → a ≡ false → b ≡ true
or_right true b h off = absurd cc
or_right false b h off = h

-- A transaction's whole tenure leaves the connection quiet.
pub quiet_again : (c k t : ℕ) (J : List Entry) → IsAlone c t J → IsOfTransaction k t J → is_whole_tenure t J ≡ true → went_bad J ≡ false → ends_invalid J ≡ false → IsQuiet c J
quiet_again c k t J s own whole good tested =
    let o = s.is_open in
    let p = parts2 (has_ended_transactions t J) (went_bad J || has_closed_cursors t J && has_closed_handles t J) whole in
    let q = parts2 (has_closed_cursors t J) (has_closed_handles t J) (or_right (went_bad J) (has_closed_cursors t J && has_closed_handles t J) p.1 good) in
    record {
      is_open = o;
      whole = λ n. each_whole c t n J s whole;
      no_handles = none_kept k t (handles J) s.handles_here (owned_there (is_tx_number k) t J own.owner) q.1;
      no_cursors = none_both (λ x. x.tenure == t) (cursors J) s.cursors_here q.0;
      not_bad = good;
      not_invalid = never_invalid J o.beginning o.not_shut tested;
    }

-- An open connection whose last tenure is whole can be shut.
pub may_follow-shut : (c t : ℕ) (a : DriverAnswer) (J : List Entry) → IsOpen c J → is_last_tenure_whole J ≡ true → last_tenure J < t → fits_of Shut a ≡ true → is_memory a ≡ false → may_follow J (shut_entry c t a) ≡ true
may_follow-shut c t a J o whole above fitting heard =
    of-MayFollow J (shut_entry c t a)
    (MayFollow-shut J c t o.one_connection a (record { beginning = o.beginning; opened = o.opened; not_refused = o.not_refused; not_shut = o.not_shut; whole = whole; above = above }) fitting (rw heard refl))
