-- Proves that the connections which a tick begins to close are idle. The argument is that each of them stands
-- among the idle ones, and is closed only once.
use Rattle.std.proofs.Common.{◌≡◌, ℕ, suc, ◌≤◌, ◌==◌, Bool, true, false, ◌&&◌, cond, List, [], ◌∷◌, Option, Some, None, refl, sym, ap, ◌∙◌, arith}
use Rattle.std.specs.List.{list_all, filter_map, cons_option}
use Rattle.std.proofs.lemmas.Bool.Decides.{nat_tests}
use Rattle.dsql_history.specs.pool.declared.moves.CloseCause.{CloseCause}
use Rattle.dsql_history.specs.pool.declared.moves.Move.{Move}
use Rattle.dsql_history.specs.pool.declared.moves.Move.TheVariants.{CloseStart}
use Rattle.dsql_history.specs.pool.Places.{conn_of, is_idle}
use Rattle.dsql_history.specs.pool.Changes.{closing}
use Rattle.dsql_history.specs.pool.Pooled.{Pooled, place_at, without}
use Rattle.dsql_history.specs.pool.Rest.{times}
use Rattle.dsql_history.specs.pool.Moved.{moved}
use Rattle.dsql_history.specs.pool.Decisions.{starts_closing, closing_for, cause_at, closings_of_tick}
use Rattle.dsql_history.proofs.pool.Members.{times-without_other}
use Rattle.dsql_history.proofs.pool.Placed.{Placed, placed_away}
use Rattle.dsql_history.proofs.pool.Settling.{outdated_closes}
use Rattle.dsql_laws.proofs.Tests.{together, same_number, same_itself}

closings_all : (f : Move → Bool) → ((c : ℕ) (why : CloseCause) → f (CloseStart c why) ≡ true) → (ms : List Move) → list_all starts_closing ms ≡ true → list_all f ms ≡ true
closings_all f h [] all = refl
closings_all f h (CloseStart c why ∷ ms) all = together (f (CloseStart c why)) (list_all f ms) (h c why) (closings_all f h ms all)
closings_all f h (_ ∷ ms) all = absurd cc

-- What holds of every start of a closing holds of these moves.
pub outdated_all : (f : Move → Bool) → ((c : ℕ) (why : CloseCause) → f (CloseStart c why) ≡ true) → (p : Pooled) → list_all f (closings_of_tick p) ≡ true
outdated_all f h p = closings_all f h (closings_of_tick p) (outdated_closes p)

-- Is true if the move begins to close a connection that is idle.
abbrev pub closes_idle : Pooled → Move → Bool
closes_idle p (CloseStart c why) = is_idle (place_at p c)
closes_idle p _ = false

-- Is true if each of these moves does so when its turn comes.
abbrev pub close_idle : List Move → Pooled → Bool
close_idle [] p = true
close_idle (m ∷ ms) p = closes_idle p m && close_idle ms (moved m p)

-- Holds if each connection occurs among the idle ones at least as often as in the list.
abbrev Among : List ℕ → Pooled → Type 0
Among cs p = (d : ℕ) → times d cs ≤ times d p.idle

fewer : (b : Bool) (n m : ℕ) → cond b (suc n) n ≤ m → n ≤ m
fewer true n m h = omega (arith, h)
fewer false n m h = h

among_later : (c : ℕ) (cs : List ℕ) (p : Pooled) → Among (c ∷ cs) p → Among cs p
among_later c cs p h = λ d. fewer (c == d) (times d cs) (times d p.idle) (h d)

within_one : (b : Bool) (n : ℕ) → suc n ≤ cond {A = ℕ} b 1 0 → (b ≡ true) × (n ≡ 0)
within_one true n h = (refl, omega (arith, h))
within_one false n h = absurd (omega (arith, h))

first_idle : (c : ℕ) (cs : List ℕ) (p : Pooled) → Placed p.idle p.conns → Among (c ∷ cs) p → (is_idle (place_at p c) ≡ true) × (times c cs ≡ 0)
first_idle c cs p placed h =
    let first : times c (c ∷ cs) ≡ suc (times c cs) = ap (λ (b : Bool). cond b (suc (times c cs)) (times c cs)) (same_itself c) in
    let here : times c p.idle ≡ cond {A = ℕ} (is_idle (place_at p c)) 1 0 = placed c in
    let some : times c (c ∷ cs) ≤ times c p.idle = h c in
    within_one (is_idle (place_at p c)) (times c cs) (omega (arith, first, here, some))

among_moved : (c : ℕ) (why : CloseCause) (cs : List ℕ) (p : Pooled) → times c cs ≡ 0 → Among (c ∷ cs) p → Among cs (moved (CloseStart c why) p)
among_moved c why cs p none h = λ d.
    elim (c == d) as (λ b. (c == d) ≡ b → times d cs ≤ times d (without c p.idle)) [
      | true ↦ λ is. let same : c ≡ d = same_number c d is in let zero : times d cs ≡ 0 = sym (ap (λ e. times e cs) same) ∙ none in omega (arith, zero)
      | false ↦ λ apart.
          let other : (d == c) ≡ false = grind (arith, nat_tests, apart) in
          let fewer : times d (c ∷ cs) ≡ times d cs = ap (λ (b : Bool). cond b (suc (times d cs)) (times d cs)) apart in
          let kept = times-without_other c d p.idle other in
          let some : times d (c ∷ cs) ≤ times d p.idle = h d in
          omega (arith, fewer, kept, some)
    ] refl

chosen_close : (g : ℕ → Option CloseCause) (cs : List ℕ) (p : Pooled) → Placed p.idle p.conns → Among cs p → close_idle (filter_map (λ c. closing_for c (g c)) cs) p ≡ true
chosen_close g [] p placed h = refl
chosen_close g (c ∷ cs) p placed h =
    let first = first_idle c cs p placed h in
    elim (g c) as (λ (o : Option CloseCause). close_idle (cons_option (closing_for c o) (filter_map (λ d. closing_for d (g d)) cs)) p ≡ true) [
      | None ↦ chosen_close g cs p placed (among_later c cs p h)
      | Some why ↦
          let rest = chosen_close g cs (moved (CloseStart c why) p) (placed_away c closing (λ _. refl) (λ _. refl) p.idle p.conns placed) (among_moved c why cs p first.1 h) in
          together (is_idle (place_at p c)) (close_idle (filter_map (λ d. closing_for d (g d)) cs) (moved (CloseStart c why) p)) first.0 rest
    ]

-- Connections that are past their time are idle when the turn of their closing comes.
pub outdated_close : (p : Pooled) → Placed p.idle p.conns → close_idle (closings_of_tick p) p ≡ true
outdated_close p placed = chosen_close (λ c. cause_at p.limits p.moment (conn_of c p.conns)) p.idle p placed (λ d. omega arith)
