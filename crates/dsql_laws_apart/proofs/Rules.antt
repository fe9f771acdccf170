-- Proves each rule by which callers are kept apart, as the test that defines it.
use Rattle.std.proofs.Common.{◌≡◌, ◌≢◌, ℕ, ◌==◌, Bool, true, false, not, ◌&&◌, ◌||◌, List, ◌∷◌, refl, ap, ◌∙◌}
use Rattle.dsql_laws_calls.specs.driver.Kinds.{is_begin}
use Rattle.dsql_laws_calls.specs.journal.declared.entry.Entry.{Entry}
use Rattle.dsql_laws_calls.specs.journal.Kinds.{◌⇒◌, is_house, is_tx_number, number_of, same_owner}
use Rattle.dsql_laws_calls.proofs.laws.Tests.{same_number, same_itself}
use Rattle.dsql_laws_calls.specs.history.declared.event.Event.{Event}
use Rattle.dsql_laws_calls.specs.history.declared.event.Event.TheVariants.{Heard}
use Rattle.dsql_laws_calls.specs.history.declared.work.Work.{Work}
use Rattle.dsql_laws_calls.specs.history.declared.work.Work.TheVariants.{Begin}
use Rattle.dsql_laws_calls.specs.history.Readers.Course.{has_ended}
use Rattle.dsql_laws_calls.specs.history.Readers.Unfinished.{is_unfinished}
use Rattle.dsql_laws_calls.specs.history.Readers.Works.{work, asks, borrower, owner_as, owner_of}
use Rattle.dsql_laws_calls.specs.history.Legal.{Lawful}
use Rattle.dsql_laws_calls.proofs.Cases.{true_false}
use Rattle.dsql_laws_calls.proofs.Ends.{zero_work}
use Rattle.dsql_laws_calls.proofs.Stays.{not_looking}
use Rattle.dsql_laws_callers.proofs.KeptApart.{sends_to_its_own, owner_of_transaction, layer_comes_last}
use Rattle.dsql_laws_apart.specs.Apart.{has_what_it_names, names_tx, has_ended_it, has_unfinished_sender, names_what_was_made, uses_its_connection, stands_in_its_transaction, comes_from_within, tidies_after_the_end, keeps_to_its_own}
use Rattle.dsql_laws_apart.proofs.Made.{busy_number, names_made}
use Rattle.dsql_laws_apart.proofs.Sent.{sends_unfinished, owner_of_borrower}
use Rattle.dsql_laws_apart.proofs.Within.{called_within, layer_within}

numbered : (n : ℕ) → (n == 0) ≡ false → n ≢ 0
numbered n is = λ none. true_false (n == 0) (ap (λ m. m == 0) none) is

-- A test that is asked only of numbers other than 0.
unless_none : (n : ℕ) (b : Bool) → (n ≢ 0 → b ≡ true) → (n == 0 || b) ≡ true
unless_none n b h = by (n == 0) refl
  where
    by : (c : Bool) → (n == 0) ≡ c → (c || b) ≡ true
    by true is = refl
    by false is = h (numbered n is)

pub unfinished_sends : (H : List Event) (e : Entry) → Lawful (Heard e ∷ H) → has_unfinished_sender H e ≡ true
unfinished_sends H e l = unless_none e.call_no (is_unfinished H e.call_no) (sends_unfinished H e l)

pub made_names : (H : List Event) (e : Entry) → Lawful (Heard e ∷ H) → names_what_was_made H e ≡ true
made_names H e l = by (e.call_no == 0) refl
  where
    by : (b : Bool) → (e.call_no == 0) ≡ b → has_what_it_names H (work H e.call_no) ≡ true
    by true is = ap (has_what_it_names H) (ap (work H) (same_number e.call_no 0 is) ∙ zero_work H)
    by false is = names_made H e l (numbered e.call_no is)

pub connection_uses : (H : List Event) (e : Entry) → Lawful (Heard e ∷ H) → uses_its_connection H e ≡ true
connection_uses H e l = unless_none e.call_no (same_owner e.owner (owner_of H (borrower H e.call_no))) own
  where
    itself : (it : Work) (n : ℕ) → same_owner (owner_as it n) (owner_as it n) ≡ true
    itself (Begin label level read_only) n = same_itself n
    itself it n = same_itself n

    own : e.call_no ≢ 0 → same_owner e.owner (owner_of H (borrower H e.call_no)) ≡ true
    own some =
        let n = borrower H e.call_no in
        ap (λ o. same_owner o (owner_of H n)) (owner_of_borrower H e l some) ∙ itself (work H n) n

pub transaction_stands : (H : List Event) (e : Entry) → Lawful (Heard e ∷ H) → stands_in_its_transaction e ≡ true
transaction_stands H e l = unless_none e.tx (is_tx_number e.tx e.owner) (λ tx. ap (is_tx_number e.tx) (owner_of_transaction H e l tx) ∙ same_itself e.tx)

pub within_comes : (H : List Event) (e : Entry) → Lawful (Heard e ∷ H) → comes_from_within H e ≡ true
within_comes H e l = unless_none e.tx (is_begin e.call || (names_tx H e.tx (work H e.call_no) || has_ended_it H e.call_no e.tx)) (by (e.call_no == 0) refl)
  where
    by : (b : Bool) → (e.call_no == 0) ≡ b → e.tx ≢ 0 → (is_begin e.call || (names_tx H e.tx (work H e.call_no) || has_ended_it H e.call_no e.tx)) ≡ true
    by true is tx = layer_within H e l tx (same_number e.call_no 0 is)
    by false is tx = called_within H e l tx (numbered e.call_no is)

pub end_tidies : (H : List Event) (e : Entry) → Lawful (Heard e ∷ H) → tidies_after_the_end H e ≡ true
end_tidies H e l = by (e.call_no == 0) (is_house e.owner) refl refl
  where
    by : (a b : Bool) → (e.call_no == 0) ≡ a → is_house e.owner ≡ b → (a && not b ⇒ has_ended H) ≡ true
    by true false layer own = layer_comes_last H e l own (same_number e.call_no 0 layer)
    by true true layer own = refl
    by false b layer own = refl

pub own_keeps : (H : List Event) (e : Entry) → Lawful (Heard e ∷ H) → keeps_to_its_own H e ≡ true
own_keeps H e l = by (asks (work H e.call_no)) refl
  where
    by : (b : Bool) → asks (work H e.call_no) ≡ b → (b ⇒ number_of e.owner == e.call_no) ≡ true
    by true own =
        let some = busy_number H e.call_no (not_looking (work H e.call_no) own) in
        ap (λ n. n == e.call_no) (sends_to_its_own H e l some own) ∙ same_itself e.call_no
    by false own = refl
