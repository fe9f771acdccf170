-- Proves that a transaction which is over, and which no call ended, was ended by the end of the run.
use Rattle.std.proofs.Common.{◌≡◌, ℕ, ◌==◌, Bool, true, false, not, ◌&&◌, cond, List, [], ◌∷◌, ◌++◌, Option, Some, None, is_some, refl, sym, ap, ◌∙◌}
use Rattle.std.specs.Option.{option_or}
use Rattle.dsql_laws_calls.specs.driver.Kinds.{is_begin}
use Rattle.dsql_laws_calls.specs.driver.Fits.{is_done}
use Rattle.dsql_laws_calls.specs.journal.declared.entry.Entry.{Entry}
use Rattle.dsql_laws_calls.specs.numbered.Numbered.{Numbered, thing_of, changed}
use Rattle.dsql_laws_calls.specs.tx.declared.end.TxEnd.{TxEnd}
use Rattle.dsql_laws_calls.specs.tx.declared.end.TxEnd.TheVariants as ends
use Rattle.dsql_laws_calls.specs.tx.declared.tx.Tx.{Tx}
use Rattle.dsql_laws_calls.specs.tx.Transactions.{begun_on, ended_by}
use Rattle.dsql_laws_calls.proofs.Cases.{true_false}
use Rattle.dsql_laws_calls.specs.history.declared.event.Event.{Event}
use Rattle.dsql_laws_calls.specs.history.declared.event.Event.TheVariants.{Entered, Heard, Ended}
use Rattle.dsql_laws_calls.specs.history.declared.event.Op.{Op}
use Rattle.dsql_laws_calls.specs.history.declared.event.Op.TheVariants as ops
use Rattle.dsql_laws_calls.specs.history.Readers.Course.{has_ended}
use Rattle.dsql_laws_calls.specs.history.Readers.Transactions.{ends_as, tx_entered, tx_heard, transactions, tx_by, end_of, is_begun, is_over, goes_on, ending_call, tx_ender}
use Rattle.dsql_laws_calls.specs.history.Readers.Unfinished.{is_unfinished}
use Rattle.dsql_laws_calls.specs.history.Readers.Works.{works, tx_maker}
use Rattle.dsql_laws_calls.specs.history.Legal.{Lawful}
use Rattle.dsql_laws_callers.proofs.Ended.{ended_still, entered_number}
use Rattle.dsql_laws_callers.proofs.Things.{with_new, none_changed, none_mapped}

abbrev over : Option Tx → Bool
over o = is_some (end_of o)

-- An answer ends no transaction.
heard_over : (e : Entry) (k : ℕ) (txs : Numbered Tx) → over (thing_of k (tx_heard e txs)) ≡ over (thing_of k txs)
heard_over e k txs =
    elim (is_begin e.call && is_done e.answer) as (λ b. over (thing_of k (cond b (txs ++ (e.call_no, begun_on e.conn e.tenure None) ∷ []) txs)) ≡ over (thing_of k txs)) [
      | true ↦ ap over (with_new k e.call_no (begun_on e.conn e.tenure None) txs) ∙ new (thing_of k txs)
      | false ↦ refl
    ]
  where
    new : (o : Option Tx) → over (option_or o (cond (k == e.call_no) (Some (begun_on e.conn e.tenure None)) None)) ≡ over o
    new (Some tx) = refl
    new None = elim (k == e.call_no) as (λ b. over (cond b (Some (begun_on e.conn e.tenure None)) None) ≡ false) [ true ↦ refl | false ↦ refl ]

-- A call ends only transactions that were begun.
ends_begun : (H : List Event) (label : List ℕ) (by : TxEnd) (k : ℕ) (txs : Numbered Tx) → thing_of k txs ≡ None → thing_of k (ends_as H label by txs) ≡ None
ends_begun H label by k txs none =
    elim (is_unfinished H (tx_maker (works H) label)) as (λ b. thing_of k (cond b txs (changed (ended_by by) (tx_maker (works H) label) txs)) ≡ None) [
      | true ↦ none
      | false ↦ none_changed (ended_by by) (tx_maker (works H) label) k txs none
    ]

entered_begun : (H : List Event) (op : Op) (k : ℕ) (txs : Numbered Tx) → thing_of k txs ≡ None → thing_of k (tx_entered H op txs) ≡ None
entered_begun H (ops.Commit tx) k txs none = ends_begun H tx ends.Commit k txs none
entered_begun H (ops.Rollback tx) k txs none = ends_begun H tx ends.Rollback k txs none
entered_begun H _ k txs none = none

-- A transaction that wasn't begun before an event isn't over after it.
unbegun : (H : List Event) (e : Event) (k : ℕ) → tx_by H k ≡ None → is_over (e ∷ H) k ≡ false
unbegun H (Entered client n op) k none = ap over (entered_begun H op k (transactions H) none)
unbegun H Ended k none = ap over (none_mapped (λ (it : ℕ × Tx). (it.0, ended_by ends.EndOfRun it.1)) k (transactions H) (λ it. refl) none)
unbegun H (Heard e) k none = heard_over e k (transactions H) ∙ ap over none
unbegun H _ k none = ap over none

begun_if : (o : Option Tx) → (o ≡ None → ⊥) → is_some o ≡ true
begun_if None some = absurd (some refl)
begun_if (Some tx) some = refl

was_begun : (H : List Event) (e : Event) (k : ℕ) → is_over (e ∷ H) k ≡ true → is_begun H k ≡ true
was_begun H e k is = begun_if (tx_by H k) (λ none. true_false _ is (unbegun H e k none))

none_over : (b : Bool) → (b && not true) ≡ false
none_over true = refl
none_over false = refl

-- If an event of no call ended a transaction, the run has ended.
ended_now : (H : List Event) (e : Event) (k : ℕ) → Lawful (e ∷ H) → is_over H k ≡ false → is_over (e ∷ H) k ≡ true → ending_call e ≡ 0 → has_ended (e ∷ H) ≡ true
ended_now H (Entered client n op) k l was is none = absurd (entered_number H client n op l.1 none)
ended_now H Ended k l was is none = refl
ended_now H (Heard e) k l was is none = absurd (true_false _ is (heard_over e k (transactions H) ∙ was))
ended_now H _ k l was is none = absurd (true_false _ is was)

-- If a transaction is over and no call ended it, the run has ended.
pub over_unended : (H : List Event) (k : ℕ) → Lawful H → is_over H k ≡ true → tx_ender H k ≡ 0 → has_ended H ≡ true
over_unended [] k l is none = absurd cc
over_unended (e ∷ H) k l is none = by (is_over H k) refl (λ was ender. over_unended H k l.0 was ender)
  where
    by : (b : Bool) → is_over H k ≡ b → (is_over H k ≡ true → tx_ender H k ≡ 0 → has_ended H ≡ true) → has_ended (e ∷ H) ≡ true
    by true was earlier =
        let rested : goes_on H k ≡ false = ap (λ b. is_begun H k && not b) was ∙ none_over (is_begun H k) in
        let ender : tx_ender H k ≡ 0 = sym (ap (λ b. cond b (cond (goes_on (e ∷ H) k) 0 (ending_call e)) (tx_ender H k)) rested) ∙ none in
        ended_still H e (earlier was ender)
    by false was earlier =
        let went_on : goes_on H k ≡ true = ap (λ b. b && not (is_over H k)) (was_begun H e k is) ∙ ap not was in
        let rests : goes_on (e ∷ H) k ≡ false = ap (λ b. is_begun (e ∷ H) k && not b) is ∙ none_over (is_begun (e ∷ H) k) in
        let ender : ending_call e ≡ 0 =
        sym (ap (λ b. cond b (cond (goes_on (e ∷ H) k) 0 (ending_call e)) (tx_ender H k)) went_on ∙ ap (λ b. cond b 0 (ending_call e)) rests) ∙ none
        in
        ended_now H e k l was is ender
