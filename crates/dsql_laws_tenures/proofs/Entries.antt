-- The newest entry of a beginning of a journal in which a tenure is a transaction's.
use Rattle.std.proofs.Common.{◌≡◌, ℕ, Bool, true, false, cond, not, ◌==◌, ◌&&◌, ◌||◌, List, ◌∷◌, refl, ap}
use Rattle.std.specs.List.{list_all, list_any}
use Rattle.dsql_history.specs.driver.declared.call.DriverCall.{DriverCall}
use Rattle.dsql_history.specs.driver.declared.call.DriverCall.TheVariants.{Reset, Valid, Begin}
use Rattle.dsql_history.specs.driver.declared.answer.DriverAnswer.{DriverAnswer}
use Rattle.dsql_history.specs.driver.declared.answer.DriverAnswer.TheVariants.{Done}
use Rattle.dsql_history.specs.driver.Fits.{is_done, is_failure}
use Rattle.dsql_history.specs.driver.Kinds.{is_begin, is_reset, is_valid, is_work}
use Rattle.dsql_history.specs.journal.declared.entry.Entry.{Entry}
use Rattle.dsql_history.specs.journal.declared.entry.Owner.{Owner}
use Rattle.dsql_history.specs.journal.declared.entry.Owner.TheVariants.{Tx}
use Rattle.dsql_history.specs.journal.Kinds.{is_tx_number}
use Rattle.dsql_history.specs.journal.Readers.{begins, is_empty, of_tenure}
use Rattle.dsql_history.specs.journal.Tenure.{body, earlier, is_body, is_refused_begin}
use Rattle.dsql_history.specs.journal.Journal.{may_follow, is_journal_prefix}
use Rattle.dsql_history.specs.journal.Facts.{MayFollow}
use Rattle.dsql_history.proofs.journal.Conjunctions.{parts2, parts3}
use Rattle.dsql_history.proofs.journal.Sentences.{MayFollow-of}
use Rattle.dsql_laws_tenures.specs.Tenures.{IsOfTransaction}
use Rattle.dsql_laws_tenures.proofs.Numbers.{same_number, not_true}

pub tx_owner : (o : Owner) (k : ℕ) → is_tx_number k o ≡ true → o ≡ Tx k
tx_owner (Tx m) k h = ap Tx (same_number m k h)
tx_owner _ k h = absurd cc

-- What is known of the newest entry, and of the journal before it.
pub record Newest (k t : ℕ) (e : Entry) (J : List Entry) : Type 0 where
  pub may : MayFollow J e
  pub before : IsOfTransaction k t J
  pub owner : (e.tenure == t) ≡ true → e.owner ≡ Tx k

pub newest : (k t : ℕ) (e : Entry) (J : List Entry) → IsOfTransaction k t (e ∷ J) → Newest k t e J
newest k t e J s =
    let p = parts2 (may_follow J e) (is_journal_prefix J) s.beginning in
    let q = by_tenure (e.tenure == t) s.owner in
    record {
      may = MayFollow-of J e p.0;
      before = record { beginning = p.1; owner = q.0 };
      owner = λ is. tx_owner e.owner k (q.1 is);
    }
  where
    by_tenure : (b : Bool) → list_all (λ x. is_tx_number k x.owner) (cond b (e ∷ of_tenure t J) (of_tenure t J)) ≡ true
        → (list_all (λ x. is_tx_number k x.owner) (of_tenure t J) ≡ true) × (b ≡ true → is_tx_number k e.owner ≡ true)
    by_tenure true h = let p = parts2 (is_tx_number k e.owner) (list_all (λ x. is_tx_number k x.owner) (of_tenure t J)) h in (p.1, λ _. p.0)
    by_tenure false h = (h, λ is. absurd cc)

work_body : (q : DriverCall) → is_work q ≡ true → (not (is_reset q || is_valid q) ≡ true) × (is_begin q ≡ false)
work_body Reset h = absurd cc
work_body Valid h = absurd cc
work_body (Begin level read_only) h = absurd cc
work_body _ h = (refl, refl)

tx_is : (alone here refused : Bool) (n x : ℕ) → here ≡ false → alone && here || not (n == 0) && (x == n) && not refused ≡ true → ((n == 0) ≡ false) × (x ≡ n) × (refused ≡ false)
tx_is alone true refused n x calm h = absurd cc
tx_is alone false refused n x calm h =
    let p = rest alone (not (n == 0) && (x == n) && not refused) h in
    let q = parts3 (not (n == 0)) (x == n) (not refused) p in
    (not_true (n == 0) q.0, same_number x n q.1, not_true refused q.2)
  where
    rest : (b c : Bool) → b && false || c ≡ true → c ≡ true
    rest true c k = k
    rest false c k = k

-- An entry of the body that isn't a Begin that was refused has the number of the transaction.
pub in_transaction : (k t : ℕ) (e : Entry) (J : List Entry) → Newest k t e J → (e.tenure == t) ≡ true → is_body e ≡ true → is_refused_begin e ≡ false
    → ((k == 0) ≡ false) × (e.tx ≡ k) × (list_any is_refused_begin (earlier J e) ≡ false)
in_transaction k t e J s is in_body calm =
    let m = s.may in
    tx_is (is_empty (body J e)) (is_refused_begin e) (list_any is_refused_begin (earlier J e)) k e.tx calm (rw (s.owner is) at (m.tenure.in_body in_body))

work_calm : (q : DriverCall) (failed zero : Bool) → is_begin q ≡ false → is_begin q && failed && zero ≡ false
work_calm q failed zero h = rw h refl

-- An entry that works in a transaction has the transaction's number.
pub tx_of_work : (k t : ℕ) (e : Entry) (J : List Entry) → Newest k t e J → (e.tenure == t) ≡ true → is_work e.call ≡ true → e.tx ≡ k
tx_of_work k t e J s is work =
    let w = work_body e.call work in
    (in_transaction k t e J s is w.0 (work_calm e.call (is_failure e.answer) (e.tx == 0) w.1)).1

begin_body : (q : DriverCall) (a : DriverAnswer) (zero : Bool) → is_begin q && is_done a ≡ true → (not (is_reset q || is_valid q) ≡ true) × (is_begin q && is_failure a && zero ≡ false)
begin_body (Begin level read_only) Done zero h = (refl, refl)
begin_body (Begin level read_only) _ zero h = absurd cc
begin_body _ a zero h = absurd cc

-- A Begin that was done has the transaction's number, too.
pub tx_of_begin : (k t : ℕ) (e : Entry) (J : List Entry) → Newest k t e J → (e.tenure == t) ≡ true → begins e ≡ true → ((k == 0) ≡ false) × (e.tx ≡ k) × (list_any is_refused_begin (earlier J e) ≡ false)
tx_of_begin k t e J s is begun =
    let w = begin_body e.call e.answer (e.tx == 0) begun in
    in_transaction k t e J s is w.0 w.1
