-- Proves that callers are kept apart: an answer in a tenure was sent by a caller to which that tenure belongs.
use Rattle.std.proofs.Common.{◌≡◌, ◌≢◌, ℕ, ◌==◌, Bool, true, false, ◌&&◌, ◌||◌, List, ◌∷◌, refl, sym, ap, ◌∙◌}
use Rattle.dsql_laws_calls.specs.journal.declared.entry.Entry.{Entry}
use Rattle.dsql_laws_calls.specs.journal.declared.entry.Owner.{Owner}
use Rattle.dsql_laws_calls.specs.journal.declared.entry.Owner.TheVariants.{Call, Tx, House}
use Rattle.dsql_laws_calls.specs.journal.Kinds.{is_house, is_pin, is_tx_number, number_of}
use Rattle.dsql_laws_calls.proofs.journal.Sentences.{MayFollow-of}
use Rattle.dsql_laws_calls.proofs.LineParts.{heard_follows}
use Rattle.dsql_laws_calls.proofs.Own.{asks_own}
use Rattle.dsql_laws_calls.proofs.laws.Tests.{same_number, other_number}
use Rattle.dsql_laws_calls.specs.history.declared.event.Event.{Event}
use Rattle.dsql_laws_calls.specs.history.declared.event.Event.TheVariants.{Heard}
use Rattle.dsql_laws_calls.specs.history.Readers.Course.{has_ended}
use Rattle.dsql_laws_calls.specs.history.Readers.Journals.{journal}
use Rattle.dsql_laws_calls.specs.history.declared.work.Work.{Work}
use Rattle.dsql_laws_calls.specs.history.declared.work.Work.TheVariants.{Begin}
use Rattle.dsql_laws_calls.specs.history.Readers.Works.{work, asks, borrower, owner_as, owner_of}
use Rattle.dsql_laws_calls.specs.history.Rules.Moves.{is_house_entry}
use Rattle.dsql_laws_calls.specs.history.Legal.{Lawful}
use Rattle.dsql_laws_calls.proofs.Owners.{owner_is_of}
use Rattle.dsql_laws_callers.proofs.Heard.{heard_lent}
use Rattle.dsql_laws_callers.proofs.Senders.{senders}
use Rattle.dsql_laws_callers.proofs.Tidying.{tidies_ended}

no_house : (e : Entry) → is_house e.owner ≡ false → is_house_entry e ≡ false
no_house e own = ap (λ b. b && (e.call_no == 0)) own

called : (e : Entry) → e.call_no ≢ 0 → is_house_entry e ≡ false
called e some = ap (λ b. is_house e.owner && b) (other_number e.call_no 0 some) ∙ none (is_house e.owner)
  where
    none : (b : Bool) → (b && false) ≡ false
    none true = refl
    none false = refl

-- The call of an entry uses the connection that is lent to the entry's owner.
pub uses_its_own : (H : List Event) (e : Entry) → Lawful (Heard e ∷ H) → e.call_no ≢ 0 → borrower H e.call_no ≡ number_of e.owner
uses_its_own H e l some =
    let f = heard_lent H e l.1 (called e some) in
    let s = senders H e l.0 some f.comes in
    s.owner e.owner f.lent

pub sends_to_its_own : (H : List Event) (e : Entry) → Lawful (Heard e ∷ H) → e.call_no ≢ 0 → asks (work H e.call_no) ≡ true → number_of e.owner ≡ e.call_no
sends_to_its_own H e l some own = sym (uses_its_own H e l some) ∙ asks_own H e.call_no own

-- A call never asks for a pin.
no_pin : (H : List Event) (n : ℕ) → is_pin (owner_of H n) ≡ false
no_pin H n = by (work H n)
  where
    by : (it : Work) → is_pin (owner_as it n) ≡ false
    by (Begin label level read_only) = refl
    by it = refl

-- An owner of transaction k is that transaction, because no owner is a pin.
transaction_is : (k : ℕ) (o : Owner) → is_pin o ≡ false → (is_tx_number k o || is_pin o) ≡ true → o ≡ Tx k
transaction_is k (Tx m) own h = by (m == k) refl h
  where
    by : (b : Bool) → (m == k) ≡ b → (b || false) ≡ true → Tx m ≡ Tx k
    by true same g = ap Tx (same_number m k same)
    by false same g = absurd cc
transaction_is k _ own h = absurd cc

owns_none : (k : ℕ) (o : Owner) → (is_tx_number k o || is_pin o) ≡ true → is_house o ≡ false
owns_none k (Call m) h = absurd cc
owns_none k House h = absurd cc
owns_none k _ h = refl

pub owner_of_transaction : (H : List Event) (e : Entry) → Lawful (Heard e ∷ H) → e.tx ≢ 0 → e.owner ≡ Tx e.tx
owner_of_transaction H e l some =
    let follows = MayFollow-of (journal H e.conn) e (heard_follows H e l.1) in
    let keeps = follows.transaction some in
    let f = heard_lent H e l.1 (no_house e (owns_none e.tx e.owner keeps.owner)) in
    let own = owner_is_of H e.conn e.tenure e.owner l.0 f.lent in
    transaction_is e.tx e.owner (ap is_pin own.1 ∙ no_pin H (number_of e.owner)) keeps.owner

pub stays_inside : (H : List Event) (e : Entry) → Lawful (Heard e ∷ H) → e.tx ≢ 0 → e.call_no ≢ 0 → borrower H e.call_no ≡ e.tx
stays_inside H e l some called = uses_its_own H e l called ∙ ap number_of (owner_of_transaction H e l some)

pub layer_comes_last : (H : List Event) (e : Entry) → Lawful (Heard e ∷ H) → is_house e.owner ≡ false → e.call_no ≡ 0 → has_ended H ≡ true
layer_comes_last H e l own none = let f = heard_lent H e l.1 (no_house e own) in tidies_ended H e l.0 none f.comes
