-- No more entries count than a server may have carried out. For a call that doesn't read one row on the
-- database, as many count. The argument is induction on the history.
use Rattle.std.proofs.Common.{◌≡◌, ◌≢◌, ℕ, suc, ◌+◌, ◌≤◌, ◌==◌, ◌⊎◌, inl, inr, Bool, true, false, not, ◌&&◌, cond, List, [], ◌∷◌, length, refl, sym, ap, ◌∙◌, arith}
use Rattle.std.specs.List.{filter}
use Rattle.dsql_laws_calls.specs.journal.declared.entry.Entry.{Entry}
use Rattle.dsql_laws_calls.specs.history.declared.event.Event.{Event}
use Rattle.dsql_laws_calls.specs.history.declared.event.Event.TheVariants.{Entered, Heard}
use Rattle.dsql_laws_calls.specs.history.Readers.Works.{work}
use Rattle.dsql_laws_calls.specs.history.Legal.{Lawful}
use Rattle.dsql_laws_calls.proofs.Stays.{work_stays}
use Rattle.dsql_laws_once.specs.Once.{may_be_carried_out, carried_out, reads_one}
use Rattle.dsql_laws_once.specs.Counted.{loses_row, counted}
use Rattle.dsql_laws_once.proofs.Once.{nat_case}
use Rattle.dsql_laws_once.proofs.Stated.{carried_states, states_busy}

some_filtered : {A : Type 0} (test : A → Bool) (xs : List A) → length (filter test xs) ≤ length xs
some_filtered test [] = omega arith
some_filtered test (x ∷ xs) = by (test x) (some_filtered test xs)
  where
    by : (b : Bool) → length (filter test xs) ≤ length xs → length (cond b (x ∷ filter test xs) (filter test xs)) ≤ suc (length xs)
    by true more = omega (arith, more)
    by false more = omega (arith, more)

all_filtered : {A : Type 0} (test : A → Bool) (xs : List A) → ((x : A) → test x ≡ true) → filter test xs ≡ xs
all_filtered test [] all = refl
all_filtered test (x ∷ xs) all = ap (λ (b : Bool). cond b (x ∷ filter test xs) (filter test xs)) (all x) ∙ ap (λ ys. x ∷ ys) (all_filtered test xs all)

few_with : (b c : Bool) (e : Entry) (test : Entry → Bool) (cs : List Entry) (k : ℕ) → length cs ≤ k → length (cond b (cond c (e ∷ cs) (filter test cs)) cs) ≤ cond (b && c) (k + 1) k
few_with false c e test cs k few = few
few_with true true e test cs k few = omega (arith, few)
few_with true false e test cs k few = let more = some_filtered test cs in omega (arith, few, more)

pub few_count : (H : List Event) (n : ℕ) → length (counted H n) ≤ carried_out H n
few_count [] n = omega arith
few_count (Heard e ∷ H) n = few_with (e.call_no == n) (may_be_carried_out e) e (λ query. not (loses_row (work H n) e query)) (counted H n) (carried_out H n) (few_count H n)
few_count (_ ∷ H) n = few_count H n

all_with : (b c : Bool) (e : Entry) (test : Entry → Bool) (cs : List Entry) (k : ℕ) → ((q : Entry) → test q ≡ true) → length cs ≡ k → length (cond b (cond c (e ∷ cs) (filter test cs)) cs) ≡ cond (b && c) (k + 1) k
all_with false c e test cs k all same = same
all_with true true e test cs k all same = omega (arith, same)
all_with true false e test cs k all same = ap length (all_filtered test cs all) ∙ same

loses_none : (one : Bool) (rest : Bool) → one ≡ false → not (one && rest) ≡ true
loses_none one rest h = grind (arith, h)

pub all_count : (H : List Event) (n : ℕ) → Lawful H → n ≢ 0 → reads_one (work H n) ≡ false → length (counted H n) ≡ carried_out H n
all_count [] n l some one = refl
all_count (Heard e ∷ H) n l some one =
    all_with (e.call_no == n) (may_be_carried_out e) e (λ query. not (loses_row (work H n) e query)) (counted H n) (carried_out H n) (λ q. loses_none (reads_one (work H n)) _ one) (all_count H n l.0 some one)
all_count (Entered client m op ∷ H) n l some one = by (all_count H n l.0 some) (nat_case (carried_out H n))
  where
    by : (reads_one (work H n) ≡ false → length (counted H n) ≡ carried_out H n) → (carried_out H n ≡ 0) ⊎ (1 ≤ carried_out H n) → length (counted H n) ≡ carried_out H n
    by earlier (inl none) = let few = few_count H n in omega (arith, few, none)
    by earlier (inr more) =
        let busy = states_busy (work H n) (carried_states H n l.0 some more) in
        earlier (ap reads_one (sym (work_stays H (Entered client m op) n busy)) ∙ one)
all_count (_ ∷ H) n l some one = all_count H n l.0 some one
