-- Proves that a call stands somewhere exactly if one of the cases for it holds. Also proves that what follows
-- from a property holds of each number of a list that has the property. So what an event leaves of each call holds of
-- all of them.
use Rattle.std.proofs.Common.{◌≡◌, ◌≢◌, ℕ, ◌==◌, Bool, true, false, ◌||◌, List, [], ◌∷◌, Option, Some, None, is_some, refl, sym, ap, ◌∙◌}
use Rattle.std.specs.List.{list_all}
use Rattle.dsql_laws_calls.specs.course.Made.{or_else}
use Rattle.dsql_laws_calls.specs.journal.Readers.{has}
use Rattle.dsql_laws_calls.specs.history.declared.record.Stand.TheVariants as stands_at
use Rattle.dsql_laws_calls.specs.history.declared.event.Event.{Event}
use Rattle.dsql_laws_calls.specs.history.Rules.Stands.{stands, opens, stand}
use Rattle.dsql_laws_calls.proofs.laws.Truths.{or_second}
use Rattle.dsql_laws_calls.proofs.laws.Tests.{both, together, second, same_itself, other_number}

pub somewhere : (w : Bool) (o : Option ℕ) (d r a : Bool) (c : ℕ)
    → is_some (or_else (stands w stands_at.Waits) (or_else (opens o) (or_else (stands d (stands_at.Sends c)) (or_else (stands r stands_at.Replies) (stands a stands_at.Asks))))) ≡ (w || (is_some o || ((d || r) || a)))
somewhere true o d r a c = refl
somewhere false (Some k) d r a c = refl
somewhere false None true r a c = refl
somewhere false None false true a c = refl
somewhere false None false false true c = refl
somewhere false None false false false c = refl

-- What holds of each number of a list.

has_first : (m : ℕ) (ms : List ℕ) → has m (m ∷ ms) ≡ true
has_first m ms = ap (λ b. b || has m ms) (same_itself m)

pub all_within : (q r : ℕ → Bool) (ms : List ℕ) → ((m : ℕ) → has m ms ≡ true → q m ≡ true → r m ≡ true) → list_all q ms ≡ true → list_all r ms ≡ true
all_within q r [] so h = refl
all_within q r (m ∷ ms) so h =
    let a = both (q m) (list_all q ms) h in
    together (r m) (list_all r ms) (so m (has_first m ms) a.0) (all_within q r ms (λ k there. so k (or_second (m == k) (has k ms) there)) a.1)

pub apart_of : (m n : ℕ) → (m == n) ≡ false → m ≢ n
apart_of m n other same = let clash : true ≡ false = sym (ap (λ k. m == k) (sym same) ∙ same_itself m) ∙ other in cc

-- Each number except k stands somewhere after an event, if each except n did before it. It is enough to know this of one
-- number at a time.
pub each_stands : (n k : ℕ) (ms : List ℕ) (H K : List Event) → ((m : ℕ) → has m ms ≡ true → m ≢ k → (m ≢ n → is_some (stand H m) ≡ true) → is_some (stand K m) ≡ true)
    → list_all (λ m. (m == n) || is_some (stand H m)) ms ≡ true → list_all (λ m. (m == k) || is_some (stand K m)) ms ≡ true
each_stands n k ms H K so h = all_within (λ m. (m == n) || is_some (stand H m)) (λ m. (m == k) || is_some (stand K m)) ms each h
  where
    each : (m : ℕ) → has m ms ≡ true → ((m == n) || is_some (stand H m)) ≡ true → ((m == k) || is_some (stand K m)) ≡ true
    each m there was = by (m == k) refl
      where
        by : (b : Bool) → (m == k) ≡ b → (b || is_some (stand K m)) ≡ true
        by true is = refl
        by false is = so m there (apart_of m k is) (λ apart. second (m == n) (is_some (stand H m)) (other_number m n apart) was)
