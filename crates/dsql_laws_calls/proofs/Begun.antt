-- A transaction is begun by the call that has its number, which is a begin. It is ended only after that call
-- has its reply.
use Rattle.std.proofs.Common.{◌≡◌, ◌≢◌, ℕ, ◌==◌, ◌⊎◌, inl, inr, Bool, true, false, not, ◌&&◌, cond, List, [], ◌∷◌, ◌++◌, Option, Some, None, is_some, refl, sym, ap, ◌∙◌}
use Rattle.std.proofs.lemmas.Bool.{or_cases}
use Rattle.std.specs.Option.{option_map}
use Rattle.dsql_laws.specs.driver.Kinds.{is_begin, is_connect, is_shut}
use Rattle.dsql_laws.specs.driver.Fits.{is_done}
use Rattle.dsql_laws.specs.driver.declared.call.DriverCall.{DriverCall}
use Rattle.dsql_laws.specs.driver.declared.call.DriverCall.TheVariants.{Connect, Shut}
use Rattle.dsql_laws.specs.journal.declared.entry.Entry.{Entry}
use Rattle.dsql_laws.specs.numbered.Numbered.{Numbered, thing_of, changed}
use Rattle.dsql_laws.proofs.numbered.Numbers.{changes_one_number, changes_each}
use Rattle.dsql_laws.specs.pool.declared.conn.Place.{Place}
use Rattle.dsql_laws.specs.pool.declared.conn.Place.TheVariants.{Idle, Lent, Opening, Closing}
use Rattle.dsql_laws.specs.tx.declared.end.TxEnd.{TxEnd}
use Rattle.dsql_laws.specs.tx.declared.end.TxEnd.TheVariants as tx_ends
use Rattle.dsql_laws.specs.tx.declared.tx.Tx.{Tx}
use Rattle.dsql_laws.specs.tx.Transactions.{begun_on, ended_by}
use Rattle.dsql_laws_work.proofs.Rows.{same_or_not}
use Rattle.dsql_laws.proofs.Tests.{both, same_number}
use Rattle.dsql_laws.specs.history.declared.event.Event.{Event}
use Rattle.dsql_laws.specs.history.declared.event.Event.TheVariants.{Entered, Heard, Ended}
use Rattle.dsql_laws.specs.history.declared.event.Op.{Op}
use Rattle.dsql_laws.specs.history.declared.event.Op.TheVariants as ops
use Rattle.dsql_laws.specs.history.declared.work.Work.{Work}
use Rattle.dsql_laws.specs.history.declared.work.Work.TheVariants as works_of
use Rattle.dsql_laws.specs.history.Readers.Unfinished.{is_unfinished}
use Rattle.dsql_laws.specs.history.Readers.Works.{works, work, tx_maker}
use Rattle.dsql_laws.specs.history.Readers.Pool.{pool, place}
use Rattle.dsql_laws.specs.history.Readers.Transactions.{ends_as, transactions, tx_by, end_of, is_begun, is_over}
use Rattle.dsql_laws.specs.history.Rules.Moves.{hears_in}
use Rattle.dsql_laws.specs.history.Rules.Line.{is_due_at, parts, may_come, sends_from}
use Rattle.dsql_laws.specs.history.Legal.{Lawful}
use Rattle.dsql_laws_calls.proofs.Works.{is_look, work_stays}
use Rattle.dsql_laws_calls.proofs.Looks.{heard_there}
use Rattle.dsql_laws_calls.proofs.Plain.{begins}
use Rattle.dsql_laws_calls.proofs.Makers.{begin_due_now}

begins_no_look : (it : Work) → begins it ≡ true → is_look it ≡ false
begins_no_look (works_of.Begin label level read_only) h = refl
begins_no_look it h = absurd cc

pub still_begins : (H : List Event) (e : Event) (n : ℕ) → begins (work H n) ≡ true → begins (work (e ∷ H) n) ≡ true
still_begins H e n h = ap begins (work_stays H e n (begins_no_look (work H n) h)) ∙ h

-- A Begin is a driver call of a call that begins a transaction.
pub begin_comes : (H : List Event) (e : Entry) → may_come H e ≡ true → is_begin e.call ≡ true → begins (work H e.call_no) ≡ true
begin_comes [] e h is = absurd cc
begin_comes (last ∷ H) e h is = by (λ may. begin_comes H e may is) (or_cases (is_due_at (last ∷ H) (place (last ∷ H) e.conn) e) (not (parts last e) && may_come H e) h)
  where
    by : (may_come H e ≡ true → begins (work H e.call_no) ≡ true) → (is_due_at (last ∷ H) (place (last ∷ H) e.conn) e ≡ true) ⊎ ((not (parts last e) && may_come H e) ≡ true)
        → begins (work (last ∷ H) e.call_no) ≡ true
    by earlier (inl now) = begin_due_now (last ∷ H) (place (last ∷ H) e.conn) e now is
    by earlier (inr could) = let b = both (not (parts last e)) (may_come H e) could in still_begins H last e.call_no (earlier b.1)

pub begin_heard : (H : List Event) (e : Entry) (at : Option Place) → hears_in (pool H) at e ≡ true → sends_from H at e ≡ true → is_begin e.call ≡ true → begins (work H e.call_no) ≡ true
begin_heard H e (Some (Lent t o)) sets line is = begin_comes H e line is
begin_heard H e (Some (Opening w)) sets line is = let a = both (is_connect e.call) _ sets in absurd (other e.call a.0 is)
  where
    other : (q : DriverCall) → is_connect q ≡ true → is_begin q ≡ true → ⊥
    other Connect h k = cc
    other q h k = cc
begin_heard H e (Some Closing) sets line is = let a = both (is_shut e.call) _ sets in absurd (other e.call a.0 is)
  where
    other : (q : DriverCall) → is_shut q ≡ true → is_begin q ≡ true → ⊥
    other Shut h k = cc
    other q h k = cc
begin_heard H e (Some Idle) sets line is = absurd cc
begin_heard H e None sets line is = absurd cc

-- What an event makes of a transaction.

-- Holds if an event left the transaction as it was, or ended it in this way.
abbrev pub Turned : Option Tx → Option Tx → Type 0
Turned o p = (p ≡ o) ⊎ ((by : TxEnd) × (p ≡ option_map (ended_by by) o))

changed_tx : (by : TxEnd) (k n : ℕ) (T : Numbered Tx) → (thing_of n (changed (ended_by by) k T) ≡ thing_of n T) ⊎ ((n ≡ k) × (thing_of n (changed (ended_by by) k T) ≡ option_map (ended_by by) (thing_of n T)))
changed_tx by k n T = split (same_or_not n k)
  where
    split : (n ≡ k) ⊎ (n ≢ k) → (thing_of n (changed (ended_by by) k T) ≡ thing_of n T) ⊎ ((n ≡ k) × (thing_of n (changed (ended_by by) k T) ≡ option_map (ended_by by) (thing_of n T)))
    split (inl same) = let l = changes_one_number {X = Tx} in inr (same, ap (λ j. thing_of n (changed (ended_by by) j T)) (sym same) ∙ l.changes (ended_by by) n T)
    split (inr apart) = let l = changes_one_number {X = Tx} in inl (l.others (ended_by by) k n T apart)

-- Holds if a call that enters ends the transaction; its begin has its reply then.
pub record EndsIt (H : List Event) (n : ℕ) (p : Option Tx) : Type 0 where
  pub by : TxEnd
  pub replied : is_unfinished H n ≡ false
  pub so : p ≡ option_map (ended_by by) (tx_by H n)

ends_it : (H : List Event) (tx : List ℕ) (by : TxEnd) (n : ℕ) → (thing_of n (ends_as H tx by (transactions H)) ≡ tx_by H n) ⊎ EndsIt H n (thing_of n (ends_as H tx by (transactions H)))
ends_it H tx by n = split (is_unfinished H (tx_maker (works H) tx)) refl
  where
    k : ℕ
    k = tx_maker (works H) tx

    split : (b : Bool) → is_unfinished H k ≡ b → (thing_of n (cond b (transactions H) (changed (ended_by by) k (transactions H))) ≡ tx_by H n) ⊎ EndsIt H n (thing_of n (cond b (transactions H) (changed (ended_by by) k (transactions H))))
    split true is = inl refl
    split false is =
        elim (changed_tx by k n (transactions H)) [
          | inl same ↦ inl same
          | inr its ↦ inr (record { by = by; replied = ap (is_unfinished H) its.0 ∙ is; so = its.1 })
        ]

pub entered_tx : (H : List Event) (client m : ℕ) (op : Op) (n : ℕ) → (tx_by (Entered client m op ∷ H) n ≡ tx_by H n) ⊎ EndsIt H n (tx_by (Entered client m op ∷ H) n)
entered_tx H client m (ops.Commit tx) n = ends_it H tx tx_ends.Commit n
entered_tx H client m (ops.Rollback tx) n = ends_it H tx tx_ends.Rollback n
entered_tx H client m op n = inl refl

-- An answer begins a transaction if it is the answer to a Begin.
more_tx : (n m : ℕ) (x : Tx) (T : Numbered Tx) → (thing_of n (T ++ (m, x) ∷ []) ≡ thing_of n T) ⊎ ((n ≡ m) × (thing_of n (T ++ (m, x) ∷ []) ≡ Some x) × (thing_of n T ≡ None))
more_tx n m x [] = by (n == m) refl
  where
    by : (b : Bool) → (n == m) ≡ b → (cond b (Some x) None ≡ None) ⊎ ((n ≡ m) × (cond b (Some x) None ≡ Some x) × (thing_of {X = Tx} n [] ≡ None))
    by true is = inr (same_number n m is, refl, refl)
    by false is = inl refl
more_tx n m x (y ∷ T) = by (more_tx n m x T) (n == y.0)
  where
    by : (thing_of n (T ++ (m, x) ∷ []) ≡ thing_of n T) ⊎ ((n ≡ m) × (thing_of n (T ++ (m, x) ∷ []) ≡ Some x) × (thing_of n T ≡ None)) → (b : Bool)
        → (cond b (Some y.1) (thing_of n (T ++ (m, x) ∷ [])) ≡ cond b (Some y.1) (thing_of n T))
        ⊎ ((n ≡ m) × (cond b (Some y.1) (thing_of n (T ++ (m, x) ∷ [])) ≡ Some x) × (cond b (Some y.1) (thing_of n T) ≡ None))
    by rest true = inl refl
    by rest false = rest

pub record BeginsIt (H : List Event) (e : Entry) (n : ℕ) (p : Option Tx) : Type 0 where
  pub begin : is_begin e.call ≡ true
  pub done : is_done e.answer ≡ true
  pub own : n ≡ e.call_no
  pub new : tx_by H n ≡ None
  pub so : p ≡ Some (begun_on e.conn e.tenure None)

pub heard_tx : (H : List Event) (e : Entry) (n : ℕ) → (tx_by (Heard e ∷ H) n ≡ tx_by H n) ⊎ BeginsIt H e n (tx_by (Heard e ∷ H) n)
heard_tx H e n = by (is_begin e.call && is_done e.answer) refl
  where
    new : Numbered Tx
    new = transactions H ++ (e.call_no, begun_on e.conn e.tenure None) ∷ []

    by : (b : Bool) → (is_begin e.call && is_done e.answer) ≡ b → (thing_of n (cond b new (transactions H)) ≡ tx_by H n) ⊎ BeginsIt H e n (thing_of n (cond b new (transactions H)))
    by true is =
        let a = both (is_begin e.call) (is_done e.answer) is in
        elim (more_tx n e.call_no (begun_on e.conn e.tenure None) (transactions H)) [
          | inl same ↦ inl same
          | inr its ↦ inr (record { begin = a.0; done = a.1; own = its.0; new = its.2; so = its.1 })
        ]
    by false is = inl refl

pub ended_tx : (H : List Event) (n : ℕ) → tx_by (Ended ∷ H) n ≡ option_map (ended_by tx_ends.EndOfRun) (tx_by H n)
ended_tx H n = changes_each (ended_by tx_ends.EndOfRun) n (transactions H)

pub as_begun : (f : Tx → Tx) (o : Option Tx) → is_some (option_map f o) ≡ is_some o
as_begun f None = refl
as_begun f (Some x) = refl

-- A call that has begun a transaction is a begin.
pub begun_begins : (H : List Event) (n : ℕ) → Lawful H → is_begun H n ≡ true → begins (work H n) ≡ true
begun_begins [] n l h = absurd cc
begun_begins (Entered client m op ∷ H) n l h = still_begins H (Entered client m op) n (by (begun_begins H n l.0) (entered_tx H client m op n))
  where
    by : (is_begun H n ≡ true → begins (work H n) ≡ true) → (tx_by (Entered client m op ∷ H) n ≡ tx_by H n) ⊎ EndsIt H n (tx_by (Entered client m op ∷ H) n) → begins (work H n) ≡ true
    by rest (inl same) = rest (ap is_some (sym same) ∙ h)
    by rest (inr it) = rest (sym (as_begun (ended_by it.by) (tx_by H n)) ∙ ap is_some (sym it.so) ∙ h)
begun_begins (Heard e ∷ H) n l h = by (begun_begins H n l.0) (heard_tx H e n)
  where
    by : (is_begun H n ≡ true → begins (work H n) ≡ true) → (tx_by (Heard e ∷ H) n ≡ tx_by H n) ⊎ BeginsIt H e n (tx_by (Heard e ∷ H) n) → begins (work H n) ≡ true
    by rest (inl same) = rest (ap is_some (sym same) ∙ h)
    by rest (inr it) = let there = heard_there H e l.1 in ap (λ k. begins (work H k)) it.own ∙ begin_heard H e (place H e.conn) there.sets there.line it.begin
begun_begins (Ended ∷ H) n l h = begun_begins H n l.0 (sym (as_begun (ended_by tx_ends.EndOfRun) (tx_by H n)) ∙ ap is_some (sym (ended_tx H n)) ∙ h)
begun_begins (_ ∷ H) n l h = begun_begins H n l.0 h

-- A transaction that was begun stays begun, and one that is over stays over.

pub turned : (H : List Event) (e : Event) (n : ℕ) → is_begun H n ≡ true → Turned (tx_by H n) (tx_by (e ∷ H) n)
turned H (Entered client m op) n b =
    elim (entered_tx H client m op n) [
      | inl same ↦ inl same
      | inr it ↦ inr (it.by, it.so)
    ]
turned H (Heard e) n b =
    elim (heard_tx H e n) [
      | inl same ↦ inl same
      | inr it ↦ (let clash : false ≡ true = sym (ap is_some it.new) ∙ b in absurd cc)
    ]
turned H Ended n b = inr (tx_ends.EndOfRun, ended_tx H n)
turned H _ n b = inl refl

turned_begun : (o p : Option Tx) → Turned o p → is_some p ≡ is_some o
turned_begun o p (inl same) = ap is_some same
turned_begun o p (inr w) = ap is_some w.1 ∙ as_begun (ended_by w.0) o

pub stays_begun : (H : List Event) (e : Event) (n : ℕ) → is_begun H n ≡ true → is_begun (e ∷ H) n ≡ true
stays_begun H e n b = turned_begun (tx_by H n) (tx_by (e ∷ H) n) (turned H e n b) ∙ b

turned_over : (o p : Option Tx) → Turned o p → is_some (end_of o) ≡ true → is_some (end_of p) ≡ true
turned_over o p (inl same) h = ap (λ x. is_some (end_of x)) same ∙ h
turned_over None p (inr w) h = absurd cc
turned_over (Some x) p (inr w) h = ap (λ x. is_some (end_of x)) w.1

pub over_begun : (H : List Event) (n : ℕ) → is_over H n ≡ true → is_begun H n ≡ true
over_begun H n h = by (tx_by H n) h
  where
    by : (o : Option Tx) → is_some (end_of o) ≡ true → is_some o ≡ true
    by None k = absurd cc
    by (Some x) k = refl

pub stays_over : (H : List Event) (e : Event) (n : ℕ) → is_over H n ≡ true → is_over (e ∷ H) n ≡ true
stays_over H e n h = turned_over (tx_by H n) (tx_by (e ∷ H) n) (turned H e n (over_begun H n h)) h
