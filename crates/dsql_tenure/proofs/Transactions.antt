-- Transactions in a beginning of a whole journal: which are begun, ended and open, and in which tenure they
-- stand.
use Rattle.std.proofs.Common.{◌≡◌, ◌≢◌, ℕ, Bool, true, false, cond, not, ◌&&◌, ◌||◌, ◌==◌, nat_lt, List, [], ◌∷◌, refl, sym, ◌∙◌, eqb→eq}
use Rattle.std.specs.List.{filter, list_any}
use native.Mathlib.Omega.{arith}
use Rattle.std.proofs.lemmas.Bool.Decides.{nat_tests}
use Rattle.dsql_driver.specs.declared.call.DriverCall.{DriverCall}
use Rattle.dsql_driver.specs.declared.call.DriverCall.TheVariants.{Begin}
use Rattle.dsql_driver.specs.declared.answer.DriverAnswer.{DriverAnswer}
use Rattle.dsql_driver.specs.declared.answer.DriverAnswer.TheVariants.{Done}
use Rattle.dsql_driver.specs.Fits.{is_done, is_failure}
use Rattle.dsql_tenure_journal.specs.declared.entry.Entry.{Entry}
use Rattle.dsql_tenure_journal.specs.declared.entry.Owner.{Owner}
use Rattle.dsql_tenure_journal.specs.declared.entry.Owner.TheVariants.{Call, Tx, Pin, House}
use Rattle.dsql_tenure_journal.specs.Kinds.{◌⇒◌, is_house}
use Rattle.dsql_driver.specs.Kinds.{is_begin, is_ping, is_work, is_connect, is_close_stmt, is_shut, is_ending, is_reset, is_valid}
use Rattle.dsql_tenure_journal.specs.Readers.{is_empty, has, of_transaction, begins, begun, ended}
use Rattle.dsql_tenure_journal.specs.Tenure.{place, is_refused_begin, has_ended_transactions, body, is_body, is_whole_tenure}
use Rattle.dsql_tenure_journal.specs.Tenure as tenure
use Rattle.dsql_tenure_journal.specs.Journal.{may_follow, is_journal_prefix, IsJournalPrefix}
use Rattle.dsql_tenure_journal.specs.Facts.{KeepsBody, MayFollow}
use Rattle.dsql_tenure_journal.proofs.Conjunctions.{parts2, if_so}
use Rattle.dsql_tenure_journal.proofs.Sentences.{MayFollow-of}
use Rattle.dsql_tenure.specs.Open.{open_in}
use Rattle.dsql_tenure.proofs.Lists.{has-filter}

-- Holds of a call that is a Begin, by what it isn't.
pub record OnlyBegins (call : DriverCall) : Type 0 where
  pub ping : is_ping call ≡ false
  pub work : is_work call ≡ false
  pub placed : nat_lt 0 (place call) ≡ false
  pub house : (is_connect call || is_close_stmt call || is_shut call) ≡ false
  pub ending : is_ending call ≡ false
  pub in_body : not (is_reset call || is_valid call) ≡ true

pub begin-only : (q : DriverCall) → is_begin q ≡ true → OnlyBegins q
begin-only (Begin level read_only) h = record { ping = refl; work = refl; placed = refl; house = refl; ending = refl; in_body = refl }
begin-only _ h = record { ping = grind (arith, h); work = grind (arith, h); placed = grind (arith, h); house = grind (arith, h); ending = grind (arith, h); in_body = grind (arith, h) }

pub done-no_failure : (a : DriverAnswer) → is_done a ≡ true → is_failure a ≡ false
done-no_failure Done h = refl
done-no_failure _ h = grind (arith, h)

pub never-both : (a : Bool) → a ≡ true → a ≡ false → ⊥
never-both true h k = grind (arith, k)
never-both false h k = grind (arith, h)

begun_outside : (o : Owner) (before : List Entry) (e : Entry) → KeepsBody o before e → (is_house o ⇒ is_connect e.call || is_close_stmt e.call || is_shut e.call) ≡ true
    → is_begin e.call ≡ true → is_done e.answer ≡ true → e.tx ≡ 0 → ⊥
begun_outside (Call n) before e k house is done zero_tx =
    let only : OnlyBegins e.call = begin-only e.call is in
    let kind : (is_ping e.call || nat_lt 0 (place e.call)) ≡ true = k.kind in
    grind (arith, only.ping, only.placed, kind)
begun_outside (Tx n) before e k house is done zero_tx =
    let fails : is_failure e.answer ≡ false = done-no_failure e.answer done in
    let kind : ((is_empty (body before e) && (is_begin e.call && is_failure e.answer && (e.tx == 0))) || (not (n == 0) && (e.tx == n) && not (list_any is_refused_begin (tenure.earlier before e)))) ≡ true = k in
    grind (arith, nat_tests, fails, kind, zero_tx)
begun_outside (Pin n) before e k house is done zero_tx =
    let only : OnlyBegins e.call = begin-only e.call is in
    let fails : is_failure e.answer ≡ false = done-no_failure e.answer done in
    let kind : ((e.tx == 0) ⇒ is_ping e.call || is_work e.call || (is_begin e.call && is_failure e.answer && (e.tx == 0))) ≡ true = k in
    grind (arith, nat_tests, fails, kind, zero_tx, only.ping, only.work)
begun_outside House before e k house is done zero_tx =
    let only : OnlyBegins e.call = begin-only e.call is in
    let kind : (is_connect e.call || is_close_stmt e.call || is_shut e.call) ≡ true = house in
    never-both (is_connect e.call || is_close_stmt e.call || is_shut e.call) kind only.house

-- A transaction that was begun has a number other than 0.
pub begins-number : (before : List Entry) (e : Entry) → MayFollow before e → begins e ≡ true → e.tx ≢ 0
begins-number before e m is zero_tx =
    let p = parts2 (is_begin e.call) (is_done e.answer) is in
    begun_outside e.owner before e (m.tenure.in_body (begin-only e.call p.0).in_body) m.tenure.house_call p.0 p.1 zero_tx

-- The ended transactions are those with an ending among their entries.
pub has-ended : (n : ℕ) (journal : List Entry) → has n (ended journal) ≡ list_any (λ x. is_ending x.call) (of_transaction n journal)
has-ended n [] = refl
has-ended n (e ∷ before) = go (is_ending e.call) (e.tx == n) refl refl (has-ended n before)
  where
    go : (a b : Bool) → is_ending e.call ≡ a → (e.tx == n) ≡ b → has n (ended before) ≡ list_any (λ x. is_ending x.call) (of_transaction n before)
        → has n (cond a (e.tx ∷ ended before) (ended before)) ≡ list_any (λ x. is_ending x.call) (cond b (e ∷ of_transaction n before) (of_transaction n before))
    go true true ends same h = grind (arith, ends, same)
    go true false ends same h = grind (arith, ends, same, h)
    go false true ends same h = grind (arith, ends, same, h)
    go false false ends same h = h

begins_if_first : (before : List Entry) (e : Entry) → MayFollow before e → e.tx ≢ 0 → is_empty (of_transaction e.tx before) ≡ true → begins e ≡ true
begins_if_first before e m some first =
    let start : (is_begin e.call && is_done e.answer && (e.call_no == e.tx)) ≡ true =
    if_so (is_empty (of_transaction e.tx before)) (is_begin e.call && is_done e.answer && (e.call_no == e.tx)) (m.transaction some).begin_first first in
    (parts2 (is_begin e.call && is_done e.answer) (e.call_no == e.tx) start).0

pub first_if_begins : (before : List Entry) (e : Entry) → MayFollow before e → begins e ≡ true → is_empty (of_transaction e.tx before) ≡ true
first_if_begins before e m is =
    if_so (is_begin e.call) (is_empty (of_transaction e.tx before)) (m.transaction (begins-number before e m is)).begin_once (parts2 (is_begin e.call) (is_done e.answer) is).0

-- A transaction has entries exactly if it was begun.
pub of_transaction-begun : (n : ℕ) (journal : List Entry) → IsJournalPrefix journal → n ≢ 0 → is_empty (of_transaction n journal) ≡ not (has n (begun journal))
of_transaction-begun n [] h some = refl
of_transaction-begun n (e ∷ before) h some =
    let p = parts2 (may_follow before e) (is_journal_prefix before) h in
    let m : MayFollow before e = MayFollow-of before e p.0 in
    go (e.tx == n) (begins e) refl refl m (of_transaction-begun n before p.1 some)
  where
    empty_list : Entry → List Entry → Bool
    empty_list x xs = is_empty (x ∷ xs)

    old : (a : Bool) → is_empty (of_transaction n before) ≡ not a → begins e ≡ false → (e.tx == n) ≡ true → MayFollow before e → a ≡ true
    old true h nay same m = refl
    old false h nay same m =
        let is_n : e.tx ≡ n = eqb→eq e.tx n (grind (arith, nat_tests, same)) in
        let first : is_empty (of_transaction e.tx before) ≡ true = rw is_n h in
        let yea : begins e ≡ true = begins_if_first before e m (λ z. some (sym is_n ∙ z)) first in
        absurd (never-both (begins e) yea nay)

    go : (b c : Bool) → (e.tx == n) ≡ b → begins e ≡ c → MayFollow before e → is_empty (of_transaction n before) ≡ not (has n (begun before))
        → is_empty (cond b (e ∷ of_transaction n before) (of_transaction n before)) ≡ not (has n (cond c (e.tx ∷ begun before) (begun before)))
    go true true same is m h = rw same refl
    go true false same is m h = grind (arith, old (has n (begun before)) h is same m)
    go false true same is m h = grind (arith, same, h)
    go false false same is m h = h

-- The open transactions are those that were begun and not ended.
pub has-open : (n : ℕ) (journal : List Entry) → IsJournalPrefix journal → has n (open_in journal) ≡ (has n (begun journal) && not (has n (ended journal)))
has-open n [] h = refl
has-open n (e ∷ before) h =
    let p = parts2 (may_follow before e) (is_journal_prefix before) h in
    let m : MayFollow before e = MayFollow-of before e p.0 in
    go (begins e) (is_ending e.call) refl refl m (has-open n before p.1)
  where
    fresh : begins e ≡ true → MayFollow before e → (e.tx == n) ≡ true → has n (ended before) ≡ false
    fresh is m same =
        let is_n : e.tx ≡ n = eqb→eq e.tx n (grind (arith, nat_tests, same)) in
        let none : is_empty (of_transaction e.tx before) ≡ true = first_if_begins before e m is in
        has-ended n before ∙ nothing_in (of_transaction n before) (rw (← is_n) none)
      where
        nothing_in : (xs : List Entry) → is_empty xs ≡ true → list_any (λ x. is_ending x.call) xs ≡ false
        nothing_in [] h = refl
        nothing_in (x ∷ xs) h = grind (arith, h)

    begun_here : (b x y z : Bool) → (b ≡ true → z ≡ false) → x ≡ (y && not z) → (b || x) ≡ ((b || y) && not z)
    begun_here true x y z new h = grind (arith, new refl)
    begun_here false x y z new h = h

    ended_here : (b c x y z : Bool) → b ≡ c → x ≡ (y && not z) → (not c && x) ≡ (y && not (b || z))
    ended_here true true x y z same h = grind (arith)
    ended_here false false x y z same h = h
    ended_here true false x y z same h = grind (arith, same)
    ended_here false true x y z same h = grind (arith, same)

    go : (b c : Bool) → begins e ≡ b → is_ending e.call ≡ c → MayFollow before e → has n (open_in before) ≡ (has n (begun before) && not (has n (ended before)))
        → has n (cond b (e.tx ∷ open_in before) (cond c (filter (λ k. not (k == e.tx)) (open_in before)) (open_in before)))
        ≡ (has n (cond b (e.tx ∷ begun before) (begun before)) && not (has n (cond c (e.tx ∷ ended before) (ended before))))
    go true true is ends m h =
        let only : OnlyBegins e.call = begin-only e.call (parts2 (is_begin e.call) (is_done e.answer) is).0 in
        absurd (never-both (is_ending e.call) ends only.ending)
    go true false is ends m h = begun_here (e.tx == n) (has n (open_in before)) (has n (begun before)) (has n (ended before)) (fresh is m) h
    go false true is ends m h =
        has-filter n e.tx (open_in before) ∙ ended_here (e.tx == n) (n == e.tx) (has n (open_in before)) (has n (begun before)) (has n (ended before)) (grind (arith, nat_tests)) h
    go false false is ends m h = h
