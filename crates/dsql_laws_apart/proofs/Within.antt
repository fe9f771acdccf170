-- Proves that what carries a transaction is its Begin, or was sent by a call that names it, or by whoever ended it.
use Rattle.std.proofs.Common.{◌≡◌, ◌≢◌, ℕ, ◌==◌, Bool, true, false, ◌||◌, List, ◌∷◌, refl, sym, ap, ◌∙◌, ◌⊎◌, inl, inr}
use Rattle.std.proofs.lemmas.Bool.{or_left, or_right}
use Rattle.dsql_laws_calls.specs.driver.Kinds.{is_begin}
use Rattle.dsql_laws_calls.specs.journal.declared.entry.Entry.{Entry}
use Rattle.dsql_laws_calls.specs.journal.declared.entry.Owner.TheVariants as owners
use Rattle.dsql_laws_calls.specs.journal.Kinds.{is_call, is_house, number_of}
use Rattle.dsql_laws_calls.proofs.laws.Tests.{same_itself, other_number}
use Rattle.dsql_laws_calls.specs.history.declared.event.Event.{Event}
use Rattle.dsql_laws_calls.specs.history.declared.event.Event.TheVariants.{Heard}
use Rattle.dsql_laws_calls.specs.history.declared.work.Scope.TheVariants.{Db, Held}
use Rattle.dsql_laws_calls.specs.history.declared.work.Work.{Work}
use Rattle.dsql_laws_calls.specs.history.declared.work.Task.TheVariants.{HandOut}
use Rattle.dsql_laws_calls.specs.history.declared.work.Work.TheVariants.{Statement, Begin, End, Fetch, Close}
use Rattle.dsql_laws_calls.specs.history.Readers.Works.{work, scope, asks, is_in, borrower, owner_as, owner_of}
use Rattle.dsql_laws_calls.specs.history.Legal.{Lawful}
use Rattle.dsql_laws_calls.proofs.Cases.{true_false}
use Rattle.dsql_laws_calls.proofs.Owners.{owner_is_of}
use Rattle.dsql_laws_calls.proofs.Makers.{hands_out, rows_hand_out}
use Rattle.dsql_laws_calls.proofs.Plain.{begins}
use Rattle.dsql_laws_calls.proofs.Own.{asks_own}
use Rattle.dsql_laws_calls.proofs.Inside.{inside_uses}
use Rattle.dsql_laws_calls.proofs.DueWay.{borrow_same}
use Rattle.dsql_laws_calls.proofs.UnderWay.{UnderWay}
use Rattle.dsql_laws_calls.proofs.Coming.{sound}
use Rattle.dsql_laws_callers.proofs.KeptApart.{owner_of_transaction, stays_inside}
use Rattle.dsql_laws_apart.specs.Apart.{has_ended_it, names_tx}
use Rattle.dsql_laws_apart.proofs.Begins.{begins_alone}
use Rattle.dsql_laws_apart.proofs.Enders.{ends_it, tidies_inside}
use Rattle.dsql_laws_apart.proofs.Sent.{heard_called, heard_owned}

-- Is true if the entry is a Begin, or its sender has this work and names the entry's transaction, or ended it.
abbrev pub from_within : List Event → Entry → Work → Bool
from_within H e it = is_begin e.call || (names_tx H e.tx it || has_ended_it H e.call_no e.tx)

-- A call that has the number of the entry's transaction begins one, because the owner of the tenure is a transaction.
transaction_begins : (H : List Event) (e : Entry) (n : ℕ) → Lawful (Heard e ∷ H) → e.tx ≢ 0 → n ≡ e.tx → begins (work H n) ≡ true
transaction_begins H e n l tx same =
    let owner = owner_of_transaction H e l tx in
    let f = heard_owned H e l.1 (ap is_house owner) in
    let own = owner_is_of H e.conn e.tenure e.owner l.0 f.lent in
    by (work H n) (ap (owner_of H) (same ∙ sym (ap number_of owner)) ∙ (sym own.1 ∙ (owner ∙ ap owners.Tx (sym same))))
  where
    by : (it : Work) → owner_as it n ≡ owners.Tx n → begins it ≡ true
    by (Begin label level read_only) h = refl
    by it h = absurd cc

none_begins : {A : Type 0} (H : List Event) (e : Entry) (n : ℕ) → Lawful (Heard e ∷ H) → e.tx ≢ 0 → borrower H n ≡ n → borrower H n ≡ e.tx → begins (work H n) ≡ false → A
none_begins H e n l tx itself uses other = absurd (true_false (begins (work H n)) (transaction_begins H e n l tx (sym itself ∙ uses)) other)

-- Rows that the sender works on were handed out in the transaction.
rows_within : (H : List Event) (e : Entry) (k : ℕ) → Lawful (Heard e ∷ H) → e.tx ≢ 0 → hands_out (work H k) ≡ true → borrower H k ≡ e.tx → is_in e.tx (scope (work H k)) ≡ true
rows_within H e k l tx hands uses = by (work H k) refl hands
  where
    by : (it : Work) → work H k ≡ it → hands_out it ≡ true → is_in e.tx (scope it) ≡ true
    by (Statement (Held n) (HandOut label)) is h = ap (λ j. j == e.tx) (sym (inside_uses H k n (ap scope is)) ∙ uses) ∙ same_itself e.tx
    by (Statement Db (HandOut label)) is h = none_begins H e k l tx (asks_own H k (ap asks is)) uses (ap begins is)
    by it is h = absurd cc

pub called_within : (H : List Event) (e : Entry) → Lawful (Heard e ∷ H) → e.tx ≢ 0 → e.call_no ≢ 0 → from_within H e (work H e.call_no) ≡ true
called_within H e l tx some =
    let f = heard_called H e l.1 some in
    let s = sound H l.0 in
    by (s.coming e f.comes) (work H e.call_no) refl
  where
    uses : borrower H e.call_no ≡ e.tx
    uses = stays_inside H e l tx some

    named : (it : Work) → names_tx H e.tx it ≡ true → from_within H e it ≡ true
    named it h = or_right (is_begin e.call) (names_tx H e.tx it || has_ended_it H e.call_no e.tx) (or_left (names_tx H e.tx it) (has_ended_it H e.call_no e.tx) h)

    inner : (k : ℕ) → scope (work H e.call_no) ≡ Held k → (k == e.tx) ≡ true
    inner k is = ap (λ j. j == e.tx) (sym (inside_uses H e.call_no k is) ∙ uses) ∙ same_itself e.tx

    over_rows : (u : UnderWay H e) (k : ℕ) → (work H e.call_no ≡ Fetch k) ⊎ (work H e.call_no ≡ Close k) → is_in e.tx (scope (work H k)) ≡ true
    over_rows u k which =
        let hands = rows_hand_out H k (u.rowed k which) in
        rows_within H e k l tx hands (sym (borrow_same H e.call_no k which hands) ∙ uses)

    ending : (k : ℕ) → work H e.call_no ≡ End k → has_ended_it H e.call_no e.tx ≡ true
    ending k is =
        let f = heard_called H e l.1 some in
        let at : borrower H e.call_no ≡ k = rw is refl in
        ap (has_ended_it H e.call_no) (sym uses ∙ at) ∙ ends_it H e k f.comes (other_number e.call_no 0 some) is

    by : (u : UnderWay H e) (it : Work) → work H e.call_no ≡ it → from_within H e it ≡ true
    by u (Statement (Held k) task) is = named (Statement (Held k) task) (inner k (ap scope is))
    by u (Fetch k) is = named (Fetch k) (over_rows u k (inl is))
    by u (Close k) is = named (Close k) (over_rows u k (inr is))
    by u (End k) is =
        or_right (is_begin e.call) (names_tx H e.tx (End k) || has_ended_it H e.call_no e.tx) (or_right (names_tx H e.tx (End k)) (has_ended_it H e.call_no e.tx) (ending k is))
    by u (Begin label level read_only) is =
        or_left (is_begin e.call) (names_tx H e.tx (Begin label level read_only) || has_ended_it H e.call_no e.tx) (begins_alone H e l (ap begins is) tx)
    by u it is = none_begins H e e.call_no l tx (rw is refl) uses (ap begins is)

pub layer_within : (H : List Event) (e : Entry) → Lawful (Heard e ∷ H) → e.tx ≢ 0 → e.call_no ≡ 0 → from_within H e (work H e.call_no) ≡ true
layer_within H e l tx none =
    let owner = owner_of_transaction H e l tx in
    let f = heard_owned H e l.1 (ap is_house owner) in
    let ended = ap (has_ended_it H e.call_no) (sym (ap number_of owner)) ∙ tidies_inside H e e.owner l.0 none (ap is_call owner) f.lent f.comes in
    or_right (is_begin e.call) (names_tx H e.tx (work H e.call_no) || has_ended_it H e.call_no e.tx) (or_right (names_tx H e.tx (work H e.call_no)) (has_ended_it H e.call_no e.tx) ended)
