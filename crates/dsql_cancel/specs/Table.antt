-- The place of a name among names in byte order, or the place where it would stand.
use Rattle.std.specs.Prelude.{◌≡◌, ℕ, ◌<◌, ◌≤◌, length}
use Rattle.std.specs.declared.cmp.Ordering.TheVariants.{Less, Equal, Greater}
use Rattle.std.specs.List.{HoldsAt}
use Rattle.std.specs.List.Sorted.{IsPartitionPoint}
use Rattle.dsql_cancel.specs.Registry.{Name, Named, byte_order}

-- Holds if the name stands at place i.
pub record IsAt (tokens : Named) (name : Name) (i : ℕ) : Type 0 where
  pub in_range : i < length tokens
  pub same : HoldsAt (λ e. byte_order e.0 name ≡ Equal) tokens i

-- Holds if the name would stand at place i: lower names stand before it, and higher ones from it on.
pub record IsGapFor (tokens : Named) (name : Name) (i : ℕ) : Type 0 where
  pub in_range : i ≤ length tokens
  pub parted : IsPartitionPoint (λ e. byte_order e.0 name ≡ Less) (λ e. byte_order e.0 name ≡ Greater) tokens i
