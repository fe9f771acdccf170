-- Openings that begin one after another, and moves made after moves.
use Rattle.std.proofs.Common.{◌≡◌, ℕ, zero, suc, ◌+◌, ◌<◌, ◌≤◌, true, false, cond, List, [], ◌∷◌, ◌++◌, length, refl, sym, ap, ◌∙◌, arith, append_assoc, length-append}
use Rattle.std.specs.Prelude.{None}
use Rattle.std.proofs.lemmas.Bool.Decides.{nat_tests}
use Rattle.dsql_pool.specs.declared.moves.Fate.{Fate}
use Rattle.dsql_pool.specs.declared.moves.Outcome.{Outcome}
use Rattle.dsql_pool.specs.declared.moves.Outcome.TheVariants.{Serves}
use Rattle.dsql_pool.specs.declared.moves.Move.{Move}
use Rattle.dsql_pool.specs.declared.moves.Move.TheVariants.{OpenStart, Back}
use Rattle.dsql_pool.specs.Changes.{opening}
use Rattle.dsql_pool.specs.Pooled.{Pooled, open_count, next_number, next_tenure, is_limited, most_open, most_allowed}
use Rattle.dsql_pool.specs.Moved.{moved, made, begun}
use Rattle.dsql_pool.specs.Decisions.{openings, openings_for_waiting, due_openings, lends_to_oldest, moves_back, when_given_back}
use Rattle.dsql_pool.specs.Calls.{then_openings, moves_given_back}
use Rattle.dsql_pool.proofs.Found.{lends_stay}

pub made_append : (ms ns : List Move) (p : Pooled) → made (ms ++ ns) p ≡ made ns (made ms p)
made_append [] ns p = refl
made_append (m ∷ ms) ns p = made_append ms ns (moved m p)

-- One opening more stands at the end of the list.
openings_next : (k c : ℕ) → openings (k + 1) c ≡ openings k c ++ OpenStart (c + k) 0 ∷ []
openings_next zero c = let same : c + zero ≡ c = omega arith in rw same refl
openings_next (suc k) c =
    let step : suc k + 1 ≡ suc (k + 1) = omega arith in
    let number : c + suc k ≡ (c + 1) + k = omega arith in
    rw (step, number) (ap (λ (ms : List Move). OpenStart c 0 ∷ ms) (openings_next k (c + 1)))

-- After k openings the next number is k higher.
numbered : (k c : ℕ) (p : Pooled) → next_number (made (openings k c) p) ≡ next_number p + k
numbered zero c p = omega arith
numbered (suc k) c p = let rest = numbered k (c + 1) (begun None p) in omega (arith, rest)

pub drawn_so_far : (k c : ℕ) (p : Pooled) → (made (openings k c) p).drawn ≡ p.drawn + k
drawn_so_far zero c p = omega arith
drawn_so_far (suc k) c p = let rest = drawn_so_far k (c + 1) (begun None p) in omega (arith, rest)

pub open_so_far : (k c : ℕ) (p : Pooled) → open_count (made (openings k c) p) ≡ open_count p + k
open_so_far zero c p = omega arith
open_so_far (suc k) c p =
    let rest = open_so_far k (c + 1) (begun None p) in
    let more : length (p.conns ++ opening (next_number p) None ∷ []) ≡ length p.conns + 1 = length-append p.conns (opening (next_number p) None ∷ []) in
    omega (arith, rest, more)

begun_next : (k c : ℕ) (p : Pooled) → begun None (made (openings k c) p) ≡ made (openings (k + 1) c) p
begun_next k c p = sym (ap (λ (ms : List Move). made ms p) (openings_next k c) ∙ made_append (openings k c) (OpenStart (c + k) 0 ∷ []) p)

-- The moves so far with the next opening are the moves with one opening more.
pub moves_next : (k : ℕ) (p q : Pooled) (old so_far next : List Move) → q ≡ made (openings k (next_number p)) p → so_far ≡ old ++ openings k (next_number p) → next ≡ so_far ++ OpenStart (next_number q) 0 ∷ [] → next ≡ old ++ openings (k + 1) (next_number p)
moves_next k p q old so_far next e f g =
    let number : next_number q ≡ next_number p + k = ap next_number e ∙ numbered k (next_number p) p in
    g
    ∙ (ap (λ (n : ℕ). so_far ++ OpenStart n 0 ∷ []) number
    ∙ (ap (λ (ms : List Move). ms ++ OpenStart (next_number p + k) 0 ∷ []) f
    ∙ (append_assoc old (openings k (next_number p)) (OpenStart (next_number p + k) 0 ∷ [])
    ∙ ap (λ (ms : List Move). old ++ ms) (sym (openings_next k (next_number p))))))

pub pool_next : (k c : ℕ) (p q next : Pooled) → q ≡ made (openings k c) p → next ≡ begun None q → next ≡ made (openings (k + 1) c) p
pool_next k c p q next e f = f ∙ (ap (begun None) e ∙ begun_next k c p)

-- The pool after moves and the openings that they leave due is the pool after `then_openings`.
pub pool_then : (ms : List Move) (p q r : Pooled) → q ≡ made ms p → r ≡ made (openings_for_waiting q) q → r ≡ made (then_openings ms p) p
pool_then ms p q r e f =
    f ∙ (ap (λ (s : Pooled). made (openings_for_waiting s) s) e ∙ sym (made_append ms (openings_for_waiting (made ms p)) p))

pub allowed_most : (p : Pooled) → most_allowed p ≤ most_open
allowed_most p =
    elim (is_limited p) as (λ b. is_limited p ≡ b → cond b p.limits.max_open most_open ≤ most_open) [
      | true ↦ λ limited. grind (arith, nat_tests)
      | false ↦ λ not. omega arith
    ] refl

-- An opening that is due is allowed.
pub due_is_allowed : (k : ℕ) (p : Pooled) → k < due_openings p → open_count p + k < most_allowed p
due_is_allowed k p due = omega (arith, due)

served_back : (c : ℕ) (p : Pooled) → lends_to_oldest c (next_tenure (moved (Back c) p) c) p.waiting ≡ lends_to_oldest c (next_tenure p c) p.waiting
served_back c p = ap (λ (n : ℕ). lends_to_oldest c (n + 2) p.waiting) (lends_stay c p.moment p.conns)

-- A connection that came back and went to the oldest request makes the moves of `moves_given_back`.
pub moves_served : (fate : Fate) (c : ℕ) (p q r : Pooled) (none noted all : List Move) → q ≡ p → Serves ≡ when_given_back fate c q → none ≡ [] → noted ≡ none ++ Back c ∷ [] → r ≡ moved (Back c) q → all ≡ noted ++ lends_to_oldest c (next_tenure r c) r.waiting → all ≡ moves_given_back fate c p
moves_served fate c p q r none noted all e is empty first f g =
    let back : r ≡ moved (Back c) p = f ∙ ap (moved (Back c)) e in
    let one : noted ≡ Back c ∷ [] = first ∙ ap (λ (ms : List Move). ms ++ Back c ∷ []) empty in
    g
    ∙ (ap (λ (ms : List Move). ms ++ lends_to_oldest c (next_tenure r c) r.waiting) one
    ∙ (ap (λ (s : Pooled). Back c ∷ lends_to_oldest c (next_tenure s c) s.waiting) back
    ∙ (ap (λ (ms : List Move). Back c ∷ ms) (served_back c p)
    ∙ ap (moves_back c p) (is ∙ ap (when_given_back fate c) e))))

pub pool_served : (fate : Fate) (c : ℕ) (p q r s : Pooled) → q ≡ p → Serves ≡ when_given_back fate c q → r ≡ moved (Back c) q → s ≡ made (lends_to_oldest c (next_tenure r c) r.waiting) r → s ≡ made (moves_given_back fate c p) p
pool_served fate c p q r s e is f g =
    let back : r ≡ moved (Back c) p = f ∙ ap (moved (Back c)) e in
    g
    ∙ (ap (λ (t : Pooled). made (lends_to_oldest c (next_tenure t c) t.waiting) t) back
    ∙ (ap (λ (ms : List Move). made ms (moved (Back c) p)) (served_back c p)
    ∙ ap (λ (o : Outcome). made (moves_back c p o) p) (is ∙ ap (when_given_back fate c) e)))
