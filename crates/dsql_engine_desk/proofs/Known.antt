-- Every call that is spoken of has entered.
use Rattle.std.proofs.Common.{◌≡◌, ℕ, ◌<◌, ◌+◌, ◌⊎◌, inl, inr, true, List, [], ◌∷◌, ◌++◌, length, refl, sym, ◌∙◌, arith}
use Rattle.std.proofs.lemmas.List.{length-append}
use Rattle.dsql_laws_calls.specs.history.declared.event.Event.{Event}
use Rattle.dsql_laws_calls.specs.history.declared.event.Event.TheVariants.{Entered, Replied}
use Rattle.dsql_laws_calls.specs.history.declared.event.Op.{Op}
use Rattle.dsql_laws_calls.specs.history.Readers.Unfinished.{is_unfinished}
use Rattle.dsql_laws_calls.specs.history.Readers.Works.{works, work_of}
use Rattle.dsql_laws_calls.specs.history.Readers.Transactions.{is_begun}
use Rattle.dsql_laws_calls.specs.history.Legal.{Allowed, Lawful}
use Rattle.dsql_laws_calls.proofs.Begun.{begun_begins}
use Rattle.dsql_laws_calls.proofs.Plain.{begins}
use Rattle.dsql_laws_calls.proofs.Stays.{as_many}
use Rattle.dsql_laws_calls.proofs.Works.{old_unfinished, still_unfinished}
use Rattle.dsql_laws_calls.proofs.Works as entering
use Rattle.dsql_engine_effects.proofs.AsEntered.{known}
use Rattle.dsql_engine_effects.proofs.FirstEnds.{by_number}

-- A call that enters has the next number.
pub enters_next : (H : List Event) (client n : ℕ) (op : Op) → Allowed H (Entered client n op) → n ≡ length (works H)
enters_next H client n op a = entering.enters_next H client n op a ∙ sym (as_many H)

-- An unfinished call other than the one that enters was unfinished before.
pub unfinished_before : (H : List Event) (client n : ℕ) (op : Op) (m : ℕ) → is_unfinished (Entered client n op ∷ H) m ≡ true → (m ≡ n) ⊎ (is_unfinished H m ≡ true)
unfinished_before H client n op m is = by_number n m ((m ≡ n) ⊎ (is_unfinished H m ≡ true)) (λ same. inl same) (λ apart. inr (sym (old_unfinished H client n op m apart) ∙ is))

pub unfinished_known : (H : List Event) (n : ℕ) → Lawful H → is_unfinished H n ≡ true → n < length (works H)
unfinished_known [] n l is = absurd cc
unfinished_known (Entered client m op ∷ H) n l is = by (unfinished_known H n l.0) (unfinished_before H client m op n is)
  where
    more : length (works H ++ work_of (works H) op ∷ []) ≡ length (works H) + 1
    more = length-append (works H) (work_of (works H) op ∷ [])

    by : (is_unfinished H n ≡ true → n < length (works H)) → (n ≡ m) ⊎ (is_unfinished H n ≡ true) → n < length (works H ++ work_of (works H) op ∷ [])
    by known (inl same) = let next = enters_next H client m op l.1 in omega (arith, more, same, next)
    by known (inr old) = let within = known old in omega (arith, more, within)
unfinished_known (Replied m reply ∷ H) n l is = let still = still_unfinished H m reply n is in unfinished_known H n l.0 still.1
unfinished_known (_ ∷ H) n l is = unfinished_known H n l.0 is

-- The call of a transaction that was begun has entered.
pub begun_known : (H : List Event) (k : ℕ) → Lawful H → is_begun H k ≡ true → k < length (works H)
begun_known H k l is = known begins (works H) k refl (begun_begins H k l is)
