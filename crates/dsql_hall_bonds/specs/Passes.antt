-- What the passes of a cell know of the work that is out.
use Rattle.std.specs.Prelude.{◌≡◌, ℕ, List, [], Some}
use mathlib.Core.Option.{some}
use lib.ListN.{get_elem?}
use Rattle.dsql_hall_bonds.specs.Work.{Work, find, without}
use Rattle.dsql_hall_bonds.specs.Unpicked.{no_work}

-- What a pass knows. The keeper's knows all work that is out, and after it took a bond back also the work of that
-- bond. A bond's knows its work.
pub data Known : Type 0 where
  Keeping : List Work → Known
  Bound : Work → Known
  TakingBack : List Work → Work → Known
  Spent : Known

-- Returns the work that is out, as the keeper's pass knows it.
abbrev pub out_of : Known → List Work
out_of (Keeping out) = out
out_of (Bound _) = []
out_of (TakingBack out _) = out
out_of Spent = []

-- Returns the work of a bond, also of one that the keeper took back.
abbrev pub work_of : Known → Work
work_of (Keeping _) = no_work
work_of (Bound work) = work
work_of (TakingBack _ work) = work
work_of Spent = no_work

-- Holds if the pass is the keeper's, and knows exactly the work that is out.
pub record KnowsOut (keeper : ℕ) (out : List Work) (pass : ℕ) (known : List Work) : Type 0 where
  pub is_keeper : pass ≡ keeper
  pub all : known ≡ out

-- Holds if the work is out, and this pass is the one that has the bond on its connection.
pub record HasBond (out : List Work) (holder : ℕ → ℕ) (pass : ℕ) (work : Work) : Type 0 where
  pub alone : holder work.conn ≡ pass
  pub is_out : find work.conn out ≡ Some work

-- Holds if what a pass knows is true.
abbrev pub IsTrueAt : ℕ → List Work → (ℕ → ℕ) → ℕ → Known → Type 0
IsTrueAt keeper out holder pass (Keeping known) = KnowsOut keeper out pass known
IsTrueAt keeper out holder pass (Bound work) = HasBond out holder pass work
IsTrueAt keeper out holder pass (TakingBack known work) =
    KnowsOut keeper out pass known × HasBond out holder pass work
IsTrueAt keeper out holder pass Spent = Unit {0}

-- Holds if what each pass of a cell knows is true. One pass is the keeper's. On each connection at most one pass has
-- a bond, the holder.
pub record KeepsBonds (passes : List Known) : Type 0 where
  pub keeper : ℕ
  pub out : List Work
  pub holder : ℕ → ℕ
  pub is_true : (pass : ℕ) (known : Known) → get_elem? passes pass ≡ some known → IsTrueAt keeper out holder pass known

-- Holds if the work of the bond that the keeper took back was out, and the keeper struck it off.
pub record IsStruckOff (before after : Known) : Type 0 where
  pub was_out : find (work_of before).conn (out_of before) ≡ Some (work_of before)
  pub struck_off : after ≡ Keeping (without (work_of before).conn (out_of before))
