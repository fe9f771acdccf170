-- Proves that a call sends only if what it names was made, and that this has a number other than 0.
use Rattle.std.proofs.Common.{◌≡◌, ◌≢◌, ℕ, ◌==◌, true, not, List, ◌∷◌, is_some, refl, ap, ◌∙◌, inl, inr}
use Rattle.dsql_laws_calls.specs.journal.declared.entry.Entry.{Entry}
use Rattle.dsql_laws_calls.proofs.laws.Tests.{both, together, other_number}
use Rattle.dsql_laws_calls.specs.history.declared.event.Event.{Event}
use Rattle.dsql_laws_calls.specs.history.declared.event.Event.TheVariants.{Heard}
use Rattle.dsql_laws_calls.specs.history.declared.work.Scope.TheVariants.{Held}
use Rattle.dsql_laws_calls.specs.history.declared.work.Work.{Work}
use Rattle.dsql_laws_calls.specs.history.declared.work.Work.TheVariants.{Statement, End, Fetch, Close, Look}
use Rattle.dsql_laws_calls.specs.history.Readers.HandedOut.{rows_by}
use Rattle.dsql_laws_calls.specs.history.Readers.Transactions.{is_begun, is_over, tx_ender}
use Rattle.dsql_laws_calls.specs.history.Readers.Works.{work, scope}
use Rattle.dsql_laws_calls.specs.history.Legal.{Lawful}
use Rattle.dsql_laws_calls.proofs.Cases.{true_false}
use Rattle.dsql_laws_calls.proofs.Ends.{zero_work}
use Rattle.dsql_laws_calls.proofs.Makers.{hands_out, rows_hand_out}
use Rattle.dsql_laws_calls.proofs.Begun.{begun_begins, over_begun}
use Rattle.dsql_laws_calls.proofs.Beginnings.{numbered}
use Rattle.dsql_laws_calls.proofs.Inside.{inside}
use Rattle.dsql_laws_calls.proofs.UnderWay.{UnderWay}
use Rattle.dsql_laws_calls.proofs.Coming.{sound}
use Rattle.dsql_laws_apart.specs.Apart.{has_rows, has_transaction, has_what_it_names}
use Rattle.dsql_laws_apart.proofs.Enders.{ends_it}
use Rattle.dsql_laws_apart.proofs.Sent.{heard_called}

-- A call that has something to do has a number.
pub busy_number : (H : List Event) (m : ℕ) → (work H m ≡ Look → ⊥) → m ≢ 0
busy_number H m busy = λ none. busy (ap (work H) none ∙ zero_work H)

transaction_made : (H : List Event) (k : ℕ) → Lawful H → is_begun H k ≡ true → has_transaction H k ≡ true
transaction_made H k l begun = together (not (k == 0)) (is_begun H k) (ap not (numbered H k (begun_begins H k l begun))) begun

rows_made : (H : List Event) (k : ℕ) → is_some (rows_by H k) ≡ true → has_rows H k ≡ true
rows_made H k some =
    let hands = rows_hand_out H k some in
    let busy = busy_number H k (λ look. true_false (hands_out (work H k)) hands (ap hands_out look)) in
    together (not (k == 0)) (is_some (rows_by H k)) (ap not (other_number k 0 busy)) some

pub names_made : (H : List Event) (e : Entry) → Lawful (Heard e ∷ H) → e.call_no ≢ 0 → has_what_it_names H (work H e.call_no) ≡ true
names_made H e l some =
    let f = heard_called H e l.1 some in
    let s = sound H l.0 in
    by (s.coming e f.comes) (work H e.call_no) refl
  where
    inner : (k : ℕ) → scope (work H e.call_no) ≡ Held k → has_transaction H k ≡ true
    inner k is =
        let f = heard_called H e l.1 some in
        let i = inside H l.0 in
        transaction_made H k l.0 (i.coming e k f.comes is)

    by : (u : UnderWay H e) (it : Work) → work H e.call_no ≡ it → has_what_it_names H it ≡ true
    by u (Statement (Held k) task) is = inner k (ap scope is)
    by u (Fetch k) is = rows_made H k (u.rowed k (inl is))
    by u (Close k) is = rows_made H k (u.rowed k (inr is))
    by u (End k) is =
        let f = heard_called H e l.1 some in
        let ended = both (is_over H k) (tx_ender H k == e.call_no) (ends_it H e k f.comes (other_number e.call_no 0 some) is) in
        transaction_made H k l.0 (over_begun H k ended.0)
    by u it is = refl
