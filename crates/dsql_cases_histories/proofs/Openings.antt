-- The limit of open connections. The rule of the limit compares the open count with the allowed count. It
-- therefore refuses an opening at the limit and permits one below it.
use Rattle.std.proofs.Common.{◌≡◌, ℕ, ◌≤◌, ◌<◌, Bool, true, false, cond, List, refl, sym, ◌∙◌, arith}
use Rattle.std.specs.Prelude.{nat_le, ◌&&◌}
use Rattle.std.proofs.lemmas.Bool.{lt-ltb, le-ltb, leb-true}
use Rattle.dsql_history.specs.pool.declared.moves.Move.TheVariants.{OpenStart}
use Rattle.dsql_history.specs.pool.Pooled.{Pooled, open_count, is_limited, most_allowed, most_open}
use Rattle.dsql_history.specs.declared.event.Event.{Event}
use Rattle.dsql_history.specs.declared.event.Event.TheVariants.{Pool}
use Rattle.dsql_history.specs.Readers.Pool.{pool}
use Rattle.dsql_history.specs.Rules.Limit.{keeps_limit}
use Rattle.dsql_history.specs.Legal.{Allowed}

limit_kept : (before : List Event) (e : Event) → Allowed before e → keeps_limit before e ≡ true
unfolding Allowed
limit_kept before e a = a.limit

pub opens_below : (before : List Event) (c n : ℕ) → open_count (pool before) < most_allowed (pool before) → keeps_limit before (Pool (OpenStart c n)) ≡ true
opens_below before c n few = lt-ltb (open_count (pool before)) (most_allowed (pool before)) few

pub opens_no_more : (before : List Event) (c n : ℕ) → most_allowed (pool before) ≤ open_count (pool before) → Allowed before (Pool (OpenStart c n)) → ⊥
opens_no_more before c n many a =
    let clash : true ≡ false = sym (limit_kept before (Pool (OpenStart c n)) a) ∙ le-ltb (open_count (pool before)) (most_allowed (pool before)) many in cc

-- The limit in force is at most `most_open`: it is the set limit if that is limited, and `most_open` otherwise.
within : (max : ℕ) (limited : Bool) → (limited ≡ true → max ≤ most_open) → cond limited max most_open ≤ most_open
within max true h = h refl
within max false h = omega arith

second : (a b : Bool) → a && b ≡ true → b ≡ true
second true b h = h
second false b h = absurd cc

most_of_pool : (p : Pooled) → most_allowed p ≤ most_open
most_of_pool p =
    within p.limits.max_open (is_limited p) (λ h. leb-true p.limits.max_open most_open (second (nat_le 1 p.limits.max_open) (nat_le p.limits.max_open most_open) h))

pub most_of : (before : List Event) → most_allowed (pool before) ≤ most_open
most_of before = most_of_pool (pool before)
