-- A transaction's tenure that has its connection alone satisfies the premises of the laws of such tenures.
use Rattle.std.proofs.Common.{◌≡◌, ℕ, ◌<◌, Bool, true, false, cond, ◌==◌, List, [], ◌∷◌, refl}
use Rattle.std.specs.List.{list_all, list_any}
use Rattle.dsql_history.specs.driver.declared.call.DriverCall.{DriverCall}
use Rattle.dsql_history.specs.driver.declared.caps.Caps.{Caps}
use Rattle.dsql_history.specs.driver.Kinds.{is_begin, is_ending, is_valid}
use Rattle.dsql_history.specs.journal.declared.entry.Entry.{Entry}
use Rattle.dsql_history.specs.journal.declared.entry.Owner.TheVariants.{Tx}
use Rattle.dsql_history.specs.journal.Kinds.{is_tx_number}
use Rattle.dsql_history.specs.journal.Readers.{begins, begun, is_empty, last_tenure, of_tenure, of_transaction, went_bad}
use Rattle.dsql_history.specs.journal.Journal.{IsJournalPrefix, may_follow}
use Rattle.dsql_history.proofs.journal.Conjunctions.{join2}
use Rattle.dsql_history.proofs.journal.PlainJournals.{IsJournalPrefix-with}
use Rattle.dsql_history.proofs.journal.Tenures.{of_tenure-new}
use Rattle.dsql_laws_tenures.specs.Begins.{HasEnded, IsLentTo, is_begin_line}
use Rattle.dsql_laws_tenures.specs.Tenures.{GoesOn, IsBegun, IsOfTransaction}
use Rattle.dsql_laws_tenures.proofs.Numbers.{impossible, is_itself, or_later}
use Rattle.dsql_laws_tenures.specs.Connections.{IsAlone}
use Rattle.dsql_laws_tenures.proofs.Alone.{apart_below, last_is}

some_of : (test : Entry → Bool) (L : List Entry) → list_any test L ≡ true → is_empty L ≡ false
some_of test [] h = absurd (impossible h)
some_of test (x ∷ L) h = refl

-- What the transaction sends, and what is sent in another tenure, leaves the tenure the transaction's own.
pub transaction_on : (k t : ℕ) (J : List Entry) (e : Entry) → IsOfTransaction k t J → may_follow J e ≡ true → ((e.tenure == t) ≡ true → e.owner ≡ Tx k) → IsOfTransaction k t (e ∷ J)
transaction_on k t J e s may own = record { beginning = IsJournalPrefix-with e J s.beginning may; owner = by_tenure (e.tenure == t) (λ is. rw (own is) (is_itself k)) s.owner }
  where
    by_tenure : (b : Bool) → (b ≡ true → is_tx_number k e.owner ≡ true) → list_all (λ x. is_tx_number k x.owner) (of_tenure t J) ≡ true
        → list_all (λ x. is_tx_number k x.owner) (cond b (e ∷ of_tenure t J) (of_tenure t J)) ≡ true
    by_tenure true here rest = join2 (is_tx_number k e.owner) (list_all (λ x. is_tx_number k x.owner) (of_tenure t J)) (here refl) rest
    by_tenure false here rest = rest

-- Nothing was heard in the tenure yet.
pub transaction_first : (k t : ℕ) (J : List Entry) → IsJournalPrefix J → last_tenure J < t → IsOfTransaction k t J
transaction_first k t J beginning above = record { beginning = beginning; owner = rw (of_tenure-new t J beginning above) refl }

pub begun_on : (k t : ℕ) (J : List Entry) (e : Entry) → IsBegun k t J → may_follow J e ≡ true → ((e.tenure == t) ≡ true → e.owner ≡ Tx k) → IsBegun k t (e ∷ J)
begun_on k t J e s may own = record { tenure = transaction_on k t J e s.tenure may own; begun = by_tenure (e.tenure == t) s.begun }
  where
    by_tenure : (b : Bool) → list_any begins (of_tenure t J) ≡ true → list_any begins (cond b (e ∷ of_tenure t J) (of_tenure t J)) ≡ true
    by_tenure true h = or_later (begins e) (list_any begins (of_tenure t J)) h
    by_tenure false h = h

-- The transaction's begin is under way.
pub lent_alone : (can : Caps) (reset_due : Bool) (begin : DriverCall) (c k t : ℕ) (J : List Entry) → IsAlone c t J → IsOfTransaction k t J → is_begin begin ≡ true
    → is_begin_line can reset_due begin (of_tenure t J) ≡ true → (k == 0) ≡ false → of_transaction k J ≡ [] → IsLentTo can reset_due begin c k t J
lent_alone can reset_due begin c k t J s own is line some none =
    let o = s.is_open in
    record {
      begins = is;
      tenure = own;
      line = line;
      numbered = some;
      no_entries = none;
      opened = o.opened;
      one_connection = o.one_connection;
      rising = s.rising;
      whole_before = λ less. s.whole_elsewhere (last_tenure J) (apart_below (last_tenure J) t less);
      bad_here = s.bad_here;
      invalid_here = s.invalid_here;
      not_refused = o.not_refused;
      not_shut = o.not_shut;
    }

-- The transaction was begun, and has no end yet.
pub goes_on_alone : (c k t : ℕ) (J : List Entry) → IsAlone c t J → IsBegun k t J → list_any (λ x. is_ending x.call) (of_tenure t J) ≡ false → list_any (λ x. is_valid x.call) (of_tenure t J) ≡ false → GoesOn c k t J
goes_on_alone c k t J s begun not_ended not_tested =
    let o = s.is_open in
    record {
      begun = begun;
      one_connection = o.one_connection;
      under_way = last_is c t J s (some_of begins (of_tenure t J) begun.begun);
      not_ended = not_ended;
      not_tested = not_tested;
      not_refused = o.not_refused;
      not_shut = o.not_shut;
    }

-- The transaction has its end, and the connection isn't tested yet.
pub has_ended_alone : (c k t : ℕ) (J : List Entry) → IsAlone c t J → IsOfTransaction k t J → list_any (λ x. is_ending x.call) (of_tenure t J) ≡ true → list_any (λ x. is_valid x.call) (of_tenure t J) ≡ false
    → went_bad J ≡ false → HasEnded c k t J
has_ended_alone c k t J s own ended not_tested not_bad =
    let o = s.is_open in
    record {
      tenure = own;
      ended = ended;
      one_connection = o.one_connection;
      under_way = last_is c t J s (some_of (λ x. is_ending x.call) (of_tenure t J) ended);
      not_tested = not_tested;
      not_bad = not_bad;
      not_refused = o.not_refused;
      not_shut = o.not_shut;
    }
